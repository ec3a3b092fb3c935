-- Refusals 3 to 5 pass where every channel joins two processes and all are apart, and 19 where every late bit is that
-- of a process: the topology's checks in a pass for each.
use Rattle.std.proofs.Common.{◌≡◌, ℕ, zero, suc, ◌/◌, ◌^◌, ◌<◌, Bool, true, false, cond, not, ◌&&◌, eqb, ltb, refl, ◌∙◌}
use Rattle.std.proofs.Common.{ltb-true}
use mathlib.Core.Option.{Option, none, some, or_else}
use Rattle.model.specs.declared.Topology.{Topology}
use Rattle.model.specs.Notation.{all_below, first_below}
use Rattle.model.specs.Check.{accepts, first_refusal}
use Rattle.model.specs.Topology.{sender, receiver, has_process, same_ends, channel_refusal, channels_refusal}
use Rattle.model.specs.Topology.{late_refusal, size_refusal, topology_refusal}
use Rattle.model.specs.Sound.{topology_sound}
use Rattle.model.proofs.laws.TopologyLaws.{SizesFit, accepted_sizes}
use Rattle.model.proofs.laws.Tests.{true_is_not_false, and_left, and_right}
use Rattle.rules.specs.Ends.{joins_two, apart}

-- the ends of a channel that joins two processes
pub ends_known : (T : Topology) (c : ℕ) → joins_two T c ≡ true
    → (sender T c < T.processes) × (receiver T c < T.processes)
unfolding joins_two has_process
ends_known T c e =
    let from = ltb (sender T c) T.processes in
    let to = ltb (receiver T c) T.processes in
    let two = and_left (from && to) (not (eqb (sender T c) (receiver T c))) e in
    (ltb-true _ _ (and_left from to two), ltb-true _ _ (and_right from to two))

pub accepts_none : (o : Option ℕ) → accepts o ≡ true → o ≡ none
unfolding accepts
accepts_none none e = refl
accepts_none (some r) e = true_is_not_false e refl

-- the three checks of a channel, by their tests
three : (known same near : Bool)
    → accepts (cond (not known) (some 3) (cond same (some 4) (cond (not near) (some 5) none)))
    ≡ ((known && not same) && near)
unfolding accepts
three false same near = refl
three true true near = refl
three true false false = refl
three true false true = refl

each : (T : Topology) (c : ℕ) → accepts (channel_refusal T c) ≡ (joins_two T c && apart T c)
unfolding channel_refusal first_refusal joins_two apart
each T c =
    three (has_process T (sender T c) && has_process T (receiver T c)) (eqb (sender T c) (receiver T c))
    (all_below c (λ d. not (same_ends T d c)))

both : (a b : Option ℕ) → accepts (or_else a b) ≡ (accepts a && accepts b)
unfolding or_else accepts
both none b = refl
both (some n) b = refl

crossed : (a b c d : Bool) → ((a && b) && (c && d)) ≡ ((a && c) && (b && d))
crossed true true c d = refl
crossed true false true d = refl
crossed true false false d = refl
crossed false b c d = refl

pass_all : (T : Topology) (n : ℕ)
    → accepts (first_below n (channel_refusal T)) ≡ (all_below n (joins_two T) && all_below n (apart T))
unfolding first_below all_below accepts
pass_all T zero = refl
pass_all T (suc n) =
    both (first_below n (channel_refusal T)) (channel_refusal T n)
    ∙ rw (pass_all T n, each T n)
    (crossed (all_below n (joins_two T)) (all_below n (apart T)) (joins_two T n) (apart T n))

-- 19
unless : (known : Bool) → accepts (cond (not known) (some 19) none) ≡ known
unfolding accepts
unless true = refl
unless false = refl

module _ (T : Topology) where
  -- no bit stands at the number of processes or above
  abbrev pub late_known : Bool
  late_known = eqb (T.late / 2 ^ T.processes) 0

  -- 3 to 5, then 19
  pub beyond_pass : accepts (or_else (channels_refusal T) (late_refusal T))
      ≡ ((all_below T.channels (joins_two T) && all_below T.channels (apart T)) && late_known)
  unfolding channels_refusal late_refusal first_refusal
  beyond_pass = both (channels_refusal T) (late_refusal T) ∙ rw (pass_all T T.channels, unless late_known)

  -- 1 and 2 first
  pub in_order : topology_sound T ≡ (accepts (size_refusal T.processes T.channels)
      && ((all_below T.channels (joins_two T) && all_below T.channels (apart T)) && late_known))
  unfolding topology_sound topology_refusal
  in_order = both (size_refusal T.processes T.channels) _ ∙ rw beyond_pass

  pub sound_sizes : topology_sound T ≡ true → SizesFit T.processes T.channels
  unfolding topology_sound
  sound_sizes e = accepted_sizes T (accepts_none (topology_refusal T) e)
