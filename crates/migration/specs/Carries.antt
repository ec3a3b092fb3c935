-- What the code promises: what is answered, and what the target then holds, are the definition's.
use Rattle.std.specs.Prelude.{ℕ, ◌≡◌, List, Result}
use Rattle.model.specs.declared.Refusal.{Refusal}
use Rattle.model.specs.Outcome.{refusal_of}
use Rattle.migration.specs.Carry.{Carried}

pub record Carries (x : Carried) (r : Result (Unit {0}) Refusal) (after : List ℕ) : Type 0 where
  pub verdict : refusal_of r ≡ x.refusal
  pub target : after ≡ x.target
