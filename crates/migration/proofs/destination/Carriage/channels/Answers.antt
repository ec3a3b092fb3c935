use Rattle.std.proofs.Common.{◌∙◌, ◌+◌, ℕ, ap₂, arith}
use Rattle.model.specs.Form.{cell, channel_log, count_cell, logged, bodies_by, entries_by}
use Rattle.model.specs.Write.{write_all}
use Rattle.model.specs.Recover.{stored_line}
use Rattle.model.proofs.store.Readable.{last_in_store}
use Rattle.model.proofs.store.Addresses.{line_in_store, in_store, log_within}
use Rattle.migration.specs.Carry.{bodies_writes, channels_writes}
use Rattle.reading.specs.Source.{form_of, bodies_at}
use Rattle.migration.proofs.Admitting.{carriable}
use Rattle.migration.proofs.Writing.{none_wrote, one_wrote, all_wrote, wrote_length}
use Rattle.migration.proofs.destination.Carriage.channels.Goals as goal

pub bounds-source-0 : goal.bounds-source-0
bounds-source-0 c = line_in_store (carriable c.requires).readable.sized

pub loop-c-init : goal.loop-c-init
loop-c-init c = none_wrote

pub copy-requires : goal.copy-requires
unfolding stored_line cell
copy-requires c =
    let l = c.loop-c in
    let a = c.args in
    let r = carriable c.requires in
    let log = channel_log l.c in
    let line = stored_line a.source.now in
    let fits = r.readable.fits log c.loop-c-test.true in
    let end : ℕ = count_cell (form_of a.self.to) line log
    + cell a.source.now (count_cell (form_of a.self.from) line log) in
    let last = in_store r.sized line end
    (log_within r.sized line log end c.loop-c-test.true (record { from = omega arith; to = omega (arith, fits) })) in
    rw (c.channel_count_cell-at.ensures.is, c.channel_count_cell.ensures.is)
    (record {
      count = fits;
      lies = omega (arith, last_in_store r.readable log c.loop-c-test.true);
      room = omega (arith, last, wrote_length l.invariant);
    })

pub loop-c-preserved : goal.loop-c-preserved
unfolding stored_line cell logged bodies_by entries_by
loop-c-preserved c =
    let l = c.loop-c in
    one_wrote l.invariant c.loop-c-test.true
    (c.copy.ensures
    ∙ ap₂ (λ (to from : ℕ). write_all l.target (bodies_writes to (bodies_at c.args.source.now from)))
    c.channel_count_cell.ensures.is c.channel_count_cell-at.ensures.is)

pub returns : goal.returns
unfolding channels_writes
returns c = all_wrote c.loop-c.invariant c.loop-c-test.false
