-- What the topology's checks and the map of late processes come to in the code's own tests.
use Rattle.std.proofs.Common.{◌≡◌, ℕ, ◌<◌, ◌≤◌, ◌/◌, ◌^◌, false, cond, not, ◌&&◌, eqb, ltb, leb, get_or, refl, arith}
use mathlib.Core.Option.{none, some}
use native.Mathlib.Nat.{pow-le-pow_right, div-eq_of_lt}
use Rattle.model.specs.declared.Topology.{Topology}
use Rattle.model.specs.declared.Phase.TheVariants.{Physical}
use Rattle.model.specs.Sound.{phase_sound}
use Rattle.model.specs.Notation.{bit_of, all_below}
use Rattle.model.specs.Check.{first_refusal}
use Rattle.model.specs.Topology.{process_limit, channel_limit, sender, receiver, has_process, same_ends, is_late}
use Rattle.model.specs.Topology.{size_refusal, channel_refusal}
use Rattle.model.proofs.laws.Bits.{bit_beyond}
use Rattle.rules.specs.Ends.{joins_two, apart}

-- 1 and 2
pub by_sizes : (processes channels : ℕ) → size_refusal processes channels
    ≡ cond (not (leb 1 processes && leb processes process_limit)) (some 1)
    (cond (ltb channel_limit channels) (some 2) none)
unfolding size_refusal first_refusal
by_sizes processes channels = refl

module _ (T : Topology) (c : ℕ) where
  abbrev from : ℕ
  from = get_or T.from c 0

  abbrev to : ℕ
  to = get_or T.to c 0

  -- neither 3 nor 4
  pub by_ends : joins_two T c ≡ ((ltb from T.processes && ltb to T.processes) && not (eqb from to))
  unfolding joins_two has_process sender receiver
  by_ends = refl

  -- 3 to 5
  pub by_channel : channel_refusal T c
      ≡ cond (not (ltb from T.processes && ltb to T.processes)) (some 3)
      (cond (eqb from to) (some 4) (cond (not (apart T c)) (some 5) none))
  unfolding channel_refusal first_refusal has_process sender receiver apart
  by_channel = refl

  -- not 5
  pub by_pairs : apart T c ≡ all_below c (λ d. not (eqb (get_or T.from d 0) from && eqb (get_or T.to d 0) to))
  unfolding apart same_ends sender receiver
  by_pairs = refl

-- 15: the next process to have its physical checkpoint, here c
pub next_sound : (T : Topology) (c : ℕ) → phase_sound T (Physical c) ≡ (ltb c T.processes && not (bit_of T.late c))
unfolding phase_sound has_process is_late
next_sound T c = refl

-- a map of 16 bits has no further ones, and nothing is left of it without 16 and more
module _ (late n : ℕ) (low : late < 65536) (high : 16 ≤ n) where
  pub beyond : bit_of late n ≡ false
  beyond = bit_beyond late 16 n (omega arith) high

  pub nothing_left : late / 2 ^ n ≡ 0
  nothing_left =
      let more : 2 ^ 16 ≤ 2 ^ n = pow-le-pow_right (omega arith) high in
      let less : late < 2 ^ n = omega (arith, low, more) in div-eq_of_lt less
