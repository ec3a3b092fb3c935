-- `destination::Carriage::write`: the processes, the channels, and then the line cell.
use Rattle.std.proofs.Common.{◌≡◌, ◌∙◌, ◌++◌, ◌<◌, ℕ, List, length, sym, ap, arith}
use Rattle.model.specs.Form.{cell}
use Rattle.model.specs.Write.{Write, write_all, commit_writes}
use Rattle.model.specs.Recover.{stored_line}
use Rattle.model.proofs.store.Writes.{length_write_all, write_all_append}
use Rattle.model.proofs.store.Addresses.{line_in_store}
use Rattle.migration.specs.Carry.{processes_writes, channels_writes, carry_writes}
use Rattle.reading.specs.Source.{form_of}
use Rattle.migration.proofs.Admitting.{carriable}
use Rattle.migration.proofs.Copying.{one_more}
use Rattle.migration.proofs.destination.Carriage.write.Goals.{After-channels}
use Rattle.migration.proofs.destination.Carriage.write.Goals as goal

pub bounds-source-0 : goal.bounds-source-0
bounds-source-0 c = line_in_store (carriable c.requires).readable.sized

-- what is written before the line cell: the processes, and after them the channels
module _ (c : After-channels) where
  abbrev channels : List Write
  channels =
      let a = c.args in channels_writes (form_of a.self.from) (form_of a.self.to) a.self.topology a.source.now

  abbrev writes : List Write
  writes =
      let a = c.args in
      processes_writes (form_of a.self.from) (form_of a.self.to) a.self.topology a.source.now ++ channels

  both : c.channels.new.target ≡ write_all c.args.target.now writes
  both =
      c.channels.ensures
      ∙ ap (λ (st : List ℕ). write_all st channels) c.processes.ensures
      ∙ sym (write_all_append c.args.target.now _ channels)

  -- so the line cell is in the target
  inside : 0 < length c.channels.new.target
  inside =
      let a = c.args in
      let sized = (carriable c.requires).sized in
      omega (arith, ap length both ∙ length_write_all a.target.now writes, line_in_store sized)

pub bounds-target-0 : goal.bounds-target-0
bounds-target-0 c = inside (goal.at.bounds-target-0 c).After-channels

pub returns : goal.returns
unfolding carry_writes commit_writes stored_line cell
returns c =
    let q = (goal.at.returns c).After-channels in one_more c.args.target.now (writes q) (both q) 0 _
