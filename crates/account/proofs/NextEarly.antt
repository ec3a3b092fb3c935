-- Where the physical checkpoints go on: the second account's `copying_from` is the first one's `first_early`.
use Prim.Native.Nat.{ℕ, zero, suc, ◌+◌, ◌-◌, ◌<◌, ◌≤◌}
use mathlib.Core.Path.{◌≡◌, refl}
use mathlib.Core.Bool.{true}
use mathlib.Core.Option.{Option, none, some}
use native.Mathlib.Omega.{arith}
use Rattle.model.specs.declared.Topology.{Topology}
use Rattle.model.specs.declared.Phase.{Phase}
use Rattle.model.specs.declared.Phase.TheVariants.{Physical, Logical}
use Rattle.model.specs.Notation.{bit_of}
use Rattle.model.specs.Topology.{is_late, first_early}
use Rattle.model.proofs.laws.Tests.{Tested, holds, fails, test}
use Rattle.model.proofs.laws.Functions.{Indices, same, other, indices}
use Rattle.model.proofs.laws.TopologyLaws.{early_at, early_none}
use Rattle.account.specs.Round.{next_of, copying_from}

-- the phase with this process next; where there is none, the logical one
abbrev pub copying : Option ℕ → Phase
copying none = Logical
copying (some p) = Physical p

module _ (T : Topology) (from : ℕ) where
  -- every process from `from` to before p is late
  abbrev PassedOver : ℕ → Type 0
  PassedOver p = (q : ℕ) → from ≤ q → q < p → bit_of T.late q ≡ true

  one_more : (p : ℕ) → PassedOver p → bit_of T.late p ≡ true → PassedOver (p + 1)
  one_more p over e q a b = go (indices q p)
    where
      go : Indices q p → bit_of T.late q ≡ true
      go (same i) = rw i e
      go (other o) = over q a (omega (arith, o))

  next_is : (n p : ℕ) → T.processes - p ≡ n → from ≤ p → PassedOver p
      → next_of T n p ≡ copying (first_early T.processes T.late from)
  unfolding next_of is_late
  next_is zero p left start over = rw (early_none T.processes T.late from p over (omega (arith, left))) refl
  next_is (suc n) p left start over =
      go (test (bit_of T.late p))
      (λ e. next_is n (p + 1) (omega (arith, left)) (omega (arith, start)) (one_more p over e))
    where
      Here : ℕ → ℕ → Type 0
      Here m q = next_of T m q ≡ copying (first_early T.processes T.late from)

      go : Tested (bit_of T.late p) → (bit_of T.late p ≡ true → Here n (p + 1)) → Here (suc n) p
      go (holds e) later = rw e (later e)
      go (fails e) later =
          rw (e, early_at T.processes T.late from p over start (omega (arith, left)) e) refl

pub copying_is : (T : Topology) (p : ℕ) → copying_from T p ≡ copying (first_early T.processes T.late p)
unfolding copying_from
copying_is T p = next_is T p (T.processes - p) p refl (omega arith) (λ q a b. absurd (omega arith))
