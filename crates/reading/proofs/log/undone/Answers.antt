use Rattle.std.proofs.Common.{arith}
use Rattle.model.specs.Form.{cell}
use Rattle.model.proofs.store.LogUndo.{undo_starts, undo_goes_on, undo_ends}
use Rattle.reading.proofs.log.undone.Goals as goal

pub loop-init : goal.loop-init
unfolding cell
loop-init c = undo_starts (omega arith)

pub overflow_sub-entry : goal.overflow_sub-entry
overflow_sub-entry c = omega (arith, c.loop.invariant.stands)

-- the entry of this turn is in the store
pub receipt-requires : goal.receipt-requires
receipt-requires c =
    omega (arith, c.loop.invariant.stands, c.loop.invariant.within, c.requires.inside, c.requires.count)

pub loop-preserved : goal.loop-preserved
loop-preserved c = rw (c.leave-word.ensures, c.receipt.ensures) (undo_goes_on c.loop.invariant c.loop-test.true)

pub returns : goal.returns
unfolding cell
returns c = undo_ends c.loop.invariant (omega arith)
