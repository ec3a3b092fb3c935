-- The loop's invariant of `engine::spot::all_set`: whether the flags so far are set.
use Rattle.std.proofs.Common.{◌≡◌, false, get_or}
use Rattle.model.specs.Notation.{all_below}
use Rattle.engine.proofs.spot.all_set.Given as goal

abbrev pub invariant-loop-set : goal.invariant-loop-set
invariant-loop-set l = l.so ≡ all_below l.set-index (λ i. get_or l.flags i false)
