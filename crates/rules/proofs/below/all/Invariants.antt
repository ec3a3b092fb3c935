-- The loop of `rules::below::all`: so says what the numbers below i have.
use Rattle.std.proofs.Common.{◌≡◌, ℕ, ◌<◌, Bool}
use Rattle.model.specs.Notation.{all_below}
use Rattle.rules.proofs.below.all.Given as goal

abbrev pub invariant-loop-i : goal.invariant-loop-i
invariant-loop-i g l =
    (f : ℕ → Bool) → ((i : ℕ) (b : Bool) → i < l.n → goal.F-post g l.test i b → b ≡ f i) → l.so ≡ all_below l.i f
