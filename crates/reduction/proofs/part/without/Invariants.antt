-- The loop's invariant: the first i places are those of the part without the block.
use Rattle.std.proofs.Common.{◌≡◌, take}
use Rattle.reduction.specs.Parts.{kept, padded, without_block}
use Rattle.reduction.proofs.part.without.Given as goal

abbrev pub invariant-loop-i : goal.invariant-loop-i
invariant-loop-i l = l.places ≡ padded (take l.i (without_block l.from l.to (kept l.part)))
