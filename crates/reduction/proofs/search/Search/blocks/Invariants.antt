-- The loop's invariant: the part fails as the list does.
use Rattle.reduction.specs.Passes.{Failing}
use Rattle.reduction.proofs.search.Search.blocks.Given as goal

abbrev pub invariant-loop-size : goal.invariant-loop-size
invariant-loop-size l = Failing l.self l.part

abbrev pub decreases-loop-size : goal.decreases-loop-size
decreases-loop-size l = l.size
