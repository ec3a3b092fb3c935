-- The loop's invariant: what the last pass over single calls left, of a part of so many calls.
use Rattle.std.proofs.Common.{◌≡◌, ◌≤◌}
use Rattle.reduction.specs.Passes.{Failing, LostFrom}
use Rattle.reduction.proofs.search.Search.singles.Given as goal

abbrev pub invariant-loop-part : goal.invariant-loop-part
invariant-loop-part l = record {
  failing : Failing l.self l.part;
  fewer : l.part.count ≤ l.before;
  lost : l.part.count ≡ l.before → LostFrom l.self l.part 0;
}

abbrev pub decreases-loop-part : goal.decreases-loop-part
decreases-loop-part l = l.before
