use Rattle.std.proofs.Common.{◌≡◌, ◌∙◌, ◌&&◌, true, false, nat_lt, refl, sym}
use Rattle.model.specs.Topology.{process_limit}
use Rattle.model.specs.Form.{message_log, physical_cell, count_cell, receipts_by, entries_by}
use Rattle.model.specs.Recover.{restored}
use Rattle.reading.specs.Source.{form_of, whole}
use Rattle.reading.proofs.log.word.Goals.{After-is_whole}
use Rattle.reading.proofs.log.word.Goals as goal

-- what is tested is whether its log is whole
tested : (c : After-is_whole)
    → nat_lt c.args.process process_limit && c.is_whole.result
    ≡ whole (form_of c.args.form) c.args.store.now (message_log c.args.process)
unfolding whole physical_cell count_cell
tested c = rw (c.is_whole.ensures, c.message_cells.ensures.is, c.physical_cell-at.ensures.is, c.line.ensures) refl

pub returns-then-whole : goal.returns-then-whole
unfolding restored receipts_by entries_by physical_cell count_cell
returns-then-whole c =
    let told : whole (form_of c.args.form) c.args.store.now (message_log c.args.process) ≡ true =
    sym (tested (goal.at.returns-then-whole c).After-is_whole) ∙ c.if-whole.true in
    c.restored.ensures ∙ rw told (rw (c.physical_cell-at.ensures.is, c.line.ensures))

pub returns-else-whole : goal.returns-else-whole
returns-else-whole c =
    let told : whole (form_of c.args.form) c.args.store.now (message_log c.args.process) ≡ false =
    sym (tested (goal.at.returns-else-whole c).After-is_whole) ∙ c.if-whole.false in
    rw told
