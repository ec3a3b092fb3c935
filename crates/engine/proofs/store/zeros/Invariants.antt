-- The loop's invariant of `engine::store::zeros`: the first i writes were made, as far as the budget lasts.
use Rattle.engine.specs.Spent.{Spent, zero_writes}
use Rattle.engine.proofs.store.zeros.Given as goal

abbrev pub invariant-loop-i : goal.invariant-loop-i
invariant-loop-i l = Spent l.fn.store l.budget (zero_writes l.first l.stride l.i) l.store l.left
