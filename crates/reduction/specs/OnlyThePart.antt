-- What the promise of `reduce` leaves open: which part comes back, and nothing else. The theorem is
-- proofs/OnlyThePart.antt.
use Rattle.std.specs.Prelude.{ℕ, ◌≡◌, List, [], Result, Ok, Err}
use Rattle.model.specs.declared.Topology.{Topology}
use Rattle.model.specs.declared.Record.{Record}
use Rattle.model.specs.declared.Refusal.{Refusal}
use Rattle.model.specs.Reduction.{refuses, sought}
use Rattle.reduction.specs.declared.Reduced.{Reduced}
use Rattle.reduction.specs.Parts.{kept}
use Rattle.reduction.specs.Reduces.{Reduces}

-- the places of the part that is answered; none with a refusal
abbrev pub kept_in : Result Reduced Refusal → List ℕ
kept_in (Ok r) = kept r.part
kept_in (Err r) = []

-- Of any two answers that keep the promise for a list: those with the same places are the same, in every field and
-- every unused place; and where the list is refused there is only one.
pub record OnlyThePart : Type 0 where
  pub places : (T : Topology) (calls : List Record) (r s : Result Reduced Refusal) → Reduces T calls r
      → Reduces T calls s → kept_in r ≡ kept_in s → r ≡ s
  pub refused : (T : Topology) (calls : List Record) (r s : Result Reduced Refusal) → Reduces T calls r
      → Reduces T calls s → (n : ℕ) → sought T calls ≡ refuses n → r ≡ s
