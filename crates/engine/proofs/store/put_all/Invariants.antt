-- The loop's invariant of `engine::store::put_all`: the first i values were written, as far as the budget lasts.
use Rattle.std.proofs.Common.{take}
use Rattle.model.specs.Write.{cell_writes}
use Rattle.engine.specs.Spent.{Spent}
use Rattle.engine.proofs.store.put_all.Given as goal

abbrev pub invariant-loop-i : goal.invariant-loop-i
invariant-loop-i l = Spent l.fn.store l.budget (cell_writes l.at (take l.i l.values)) l.store l.left
