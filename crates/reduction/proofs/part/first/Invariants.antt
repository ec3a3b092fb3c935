-- The loop's invariant: the first i places are filled, each with its own number.
use Rattle.std.proofs.Common.{◌≡◌}
use Rattle.reduction.specs.Parts.{padded}
use Rattle.reduction.proofs.Parts.{numbers}
use Rattle.reduction.proofs.part.first.Given as goal

abbrev pub invariant-loop-i : goal.invariant-loop-i
invariant-loop-i l = l.places ≡ padded (numbers l.i)
