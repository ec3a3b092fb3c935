-- `refusals::counts_fit`: the counts of the message logs, then those of the channel logs.
use Rattle.std.proofs.Common.{◌≡◌, ℕ, ◌+◌, ap}
use Rattle.model.specs.Form.{cell, message_log, count_cell, physical_cell}
use Rattle.model.specs.Recover.{stored_line}
use Rattle.model.proofs.store.Sizes.{Sized, sized_start}
use Rattle.model.proofs.store.Addresses.{line_in_store}
use Rattle.model.proofs.store.Readable.{messages_over, messages_fit}
use Rattle.reading.specs.Source.{form_of}
use Rattle.reading.proofs.refusals.counts_fit.Goals.{Start, After-physical_cell-messages}
use Rattle.reading.proofs.refusals.counts_fit.Goals as goal

-- the topology's sizes and the store's
sized : (c : Start) → Sized (form_of c.args.form) c.args.topology c.args.store.now
sized c = sized_start (form_of c.args.form) c.args.topology c.args.store.now c.requires

pub bounds-store-0 : goal.bounds-store-0
bounds-store-0 c = line_in_store (sized (goal.at.bounds-store-0 c).Start)

-- where the counts of the line's message logs begin
first : (c : After-physical_cell-messages)
    → c.physical_cell-messages.result + 1
    ≡ count_cell (form_of c.args.form) (stored_line c.args.store.now) (message_log 0)
unfolding stored_line cell count_cell physical_cell
first c = ap (λ (at : ℕ). at + 1) c.physical_cell-messages.ensures.is

pub returns-then-not-at_most : goal.returns-then-not-at_most
returns-then-not-at_most c =
    let p = goal.at.returns-then-not-at_most c in
    messages_over (sized p.Start) (first p.After-physical_cell-messages)
    (rw c.process_cells.ensures.is at c.at_most.ensures) c.if-not-at_most.true

pub returns : goal.returns
unfolding stored_line cell
returns c =
    let p = goal.at.returns c in
    messages_fit (sized p.Start) (first p.After-physical_cell-messages)
    (rw c.process_cells.ensures.is at c.at_most.ensures) c.if-not-at_most.false
    c.channel_count_cell-channels.ensures.is c.at_most-2.ensures
