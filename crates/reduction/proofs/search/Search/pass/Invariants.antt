-- The loop's invariant: from the place to on, the blocks were tried.
use Rattle.reduction.proofs.Passing.{Passing}
use Rattle.reduction.proofs.search.Search.pass.Given as goal

abbrev pub invariant-loop-to : goal.invariant-loop-to
invariant-loop-to l = Passing l.self l.fn.whole l.size l.part l.to

abbrev pub decreases-loop-to : goal.decreases-loop-to
decreases-loop-to l = l.to
