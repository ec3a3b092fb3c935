-- 19 is a late bit for a process that isn't planned (the statement is LateBits of specs/LateBits.antt).
use Prim.Native.Nat.{ℕ, ◌<◌, ◌+◌, ◌/◌, ◌^◌}
use mathlib.Core.Path.{◌≡◌, ◌∙◌}
use mathlib.Core.Bool.{true, false}
use mathlib.Core.Option.{none}
use lib.Dec.{ltb}
use native.Mathlib.Omega.{arith}
use borrow.Author.Tests.{ltb-true, ltb-false, eqb-true, not-false}
use Rattle.model.specs.declared.Topology.{Topology}
use Rattle.model.specs.Notation.{bit_of}
use Rattle.model.specs.Check.{first_refusal}
use Rattle.model.specs.Topology.{has_process, is_late, late_refusal}
use Rattle.model.specs.LateBits.{LatePlanned, LateBits}
use Rattle.model.proofs.laws.Tests.{true_is_not_false, Tested, holds, fails, test}
use Rattle.model.proofs.laws.Bits.{below_power, bit_beyond, bits_above, no_bits}
use Rattle.model.proofs.laws.Passing.{passed}

module _ (T : Topology) where
  late_planned : late_refusal T ≡ none → LatePlanned T
  unfolding late_refusal is_late has_process
  late_planned e p late = go (test (ltb p T.processes))
    where
      low : T.late < 2 ^ T.processes
      low = below_power _ _ (eqb-true _ _ (not-false _ (passed _ e).0))

      go : Tested (ltb p T.processes) → ltb p T.processes ≡ true
      go (holds l) = l
      go (fails l) = true_is_not_false late (bit_beyond T.late T.processes p low (ltb-false p _ l))

  nothing_left : LatePlanned T → late_refusal T ≡ none
  unfolding late_refusal first_refusal is_late has_process
  nothing_left h =
      rw (no_bits (T.late / 2 ^ T.processes) _ (omega arith)
      (λ i. bits_above T.late T.processes i ∙ go i (test (bit_of T.late (T.processes + i)))))
    where
      go : (i : ℕ) → Tested (bit_of T.late (T.processes + i)) → bit_of T.late (T.processes + i) ≡ false
      go i (holds t) = absurd (omega (arith, ltb-true (T.processes + i) T.processes (h (T.processes + i) t)))
      go i (fails t) = t

pub late_bits : (T : Topology) → LateBits T
late_bits T = record { passes = late_planned T; planned = nothing_left T }
