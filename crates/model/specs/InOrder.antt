-- Document 01: "Order for steps: 15, 6, 8, 12, 13, 10, 14, 9, 11. Setup and restart: 1 to 6, then 16." What it is for
-- checks to come in this order, as a statement. The theorem is proofs/InOrder.antt.
use Rattle.std.specs.Prelude.{ℕ, ◌≡◌, Bool, true, false, cond, List, [], ◌∷◌, map, length, eqb}
use Rattle.std.proofs.Math.Option.{none, some}
use Rattle.model.specs.declared.Topology.{Topology}
use Rattle.model.specs.declared.Step.{Step}
use Rattle.model.specs.Check.{Check}
use Rattle.model.specs.Topology.{size_checks, channel_checks, size_refusal, channels_refusal, topology_refusal}
use Rattle.model.specs.State.{GlobalState}
use Rattle.model.specs.Step.{step_checks}
use Rattle.model.specs.Start.{initialize_refusal, recover_refusal}

unfoldable pub document_order : List ℕ
document_order = 15 ∷ 6 ∷ 8 ∷ 12 ∷ 13 ∷ 10 ∷ 14 ∷ 9 ∷ 11 ∷ []

-- whether xs is ys with some left out
unfoldable pub in_order : List ℕ → List ℕ → Bool
in_order [] ys = true
in_order (x ∷ xs) [] = false
in_order (x ∷ xs) (y ∷ ys) = cond (eqb x y) (in_order xs ys) (in_order (x ∷ xs) ys)

-- the refusal numbers of these checks
unfoldable pub check_numbers : List Check → List ℕ
check_numbers checks = map (λ c. c.refusal) checks

pub record InOrder : Type 0 where
  -- "Order for steps": of every step
  pub steps : (s : GlobalState) (cells : ℕ) (x : Step)
      → in_order (check_numbers (step_checks s cells x)) document_order ≡ true
  -- "Setup and restart: 1 to 6, then 16.": 1 before 2, and 3 before 4 before 5 on each channel;
  pub sizes : (n m : ℕ) → check_numbers (size_checks n m) ≡ 1 ∷ 2 ∷ []
  pub channels : (T : Topology) (c : ℕ) → check_numbers (channel_checks T c) ≡ 3 ∷ 4 ∷ 5 ∷ []
  -- 1 and 2 come before 3 to 5 and before 19,
  pub sizes_first : (T : Topology) (r : ℕ) → size_refusal T.processes T.channels ≡ some r
      → topology_refusal T ≡ some r
  -- 3 to 5 before 19: document 02, M-105, "19, a late bit for a board not in the plan, after 5",
  pub channels_first : (T : Topology) (r : ℕ) → size_refusal T.processes T.channels ≡ none
      → channels_refusal T ≡ some r → topology_refusal T ≡ some r
  -- all these before 6,
  pub topology_first : (T : Topology) (cells r : ℕ) → topology_refusal T ≡ some r → initialize_refusal T cells ≡ some r
  -- and 6, with those before it, before 16
  pub initialize_first : (T : Topology) (store : List ℕ) (r : ℕ) → initialize_refusal T (length store) ≡ some r
      → recover_refusal T store ≡ some r
