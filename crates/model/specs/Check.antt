-- Checks: each a test and, where the test holds, document 01's number of the refusal. The first one that fails decides.
use Rattle.std.specs.Prelude.{ℕ, Bool, true, false, cond, List, [], ◌∷◌}
use Rattle.std.proofs.Math.Option.{Option, none, some}

pub record Check : Type 0 where
  pub fails : Bool
  pub refusal : ℕ

infix 20 ◌gives◌
abbrev pub ◌gives◌ : Bool → ℕ → Check
t gives n = record { fails = t; refusal = n }

-- the refusal of the first check that fails, in the list's order
unfoldable pub first_refusal : List Check → Option ℕ
first_refusal [] = none
first_refusal (c ∷ cs) = cond c.fails (some c.refusal) (first_refusal cs)

-- whether there is no refusal
unfoldable pub accepts : Option ℕ → Bool
accepts none = true
accepts (some n) = false
