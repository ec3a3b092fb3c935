-- What a test of each number below a bound finds.
use Rattle.std.specs.Prelude.{◌≡◌, ℕ, ◌<◌, Bool}
use Rattle.model.specs.Notation.{all_below}

-- so says whether f holds of every number below n, for each f that gives what the tests answer
abbrev pub TestedBelow : ℕ → (ℕ → Bool → Type 0) → Bool → Type 0
TestedBelow n Answers so =
    (f : ℕ → Bool) → ((i : ℕ) (b : Bool) → i < n → Answers i b → b ≡ f i) → so ≡ all_below n f
