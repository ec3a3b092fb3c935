-- The companion of demand 3 (its statement is Demand3Companion of specs/Reached.antt): a world that a list of calls
-- reaches has a sound state, a step there is refused with 8 to 13 alone, and a recover not at all.
use Prim.Native.Nat.{ℕ, ◌<◌, ◌≤◌}
use mathlib.Core.Path.{◌≡◌, refl, sym, ap, subst}
use mathlib.Core.Bool.{Bool, true, false, ◌&&◌}
use mathlib.Core.List.{List, [], ◌∷◌}
use mathlib.Core.Option.{Option, none, some, some-ne-none}
use lib.ListN.{length}
use lib.Dec.{leb}
use borrow.Author.Tests.{leb-true, le-ltb, not-true}
use Rattle.model.specs.declared.Topology.{Topology}
use Rattle.model.specs.declared.Phase.{Phase}
use Rattle.model.specs.declared.Phase.TheVariants as phase
use Rattle.model.specs.declared.Entry.{Entry}
use Rattle.model.specs.declared.Entry.TheVariants.{Message, Marker}
use Rattle.model.specs.declared.Step.{Step}
use Rattle.model.specs.declared.Step.TheVariants.{Send, Receive, Begin, PhysicalCheckpoint}
use Rattle.model.specs.declared.Step.TheVariants.{LogicalCheckpoint, SendMarker, Commit, Abort}
use Rattle.model.specs.Check.{Check, first_refusal}
use Rattle.model.specs.Topology.{receiver, has_channel}
use Rattle.model.specs.Layout.{store_cells}
use Rattle.model.specs.State.{GlobalState}
use Rattle.model.specs.Sound.{sound}
use Rattle.model.specs.Outcome.{refused, cut}
use Rattle.model.specs.Heard.{accepted}
use Rattle.model.specs.Write.{under_budget}
use Rattle.model.specs.Receive.{logs_only, reaction_to, receiver_at}
use Rattle.model.specs.Step.{reaction, first_reaction, marker_on_closed, prior_checks, room_checks, log_checks}
use Rattle.model.specs.Step.{own_checks}
use Rattle.model.specs.Step.{step_checks, quietly, result_of, step, answer}
use Rattle.model.specs.Start.{recover, state_or}
use Rattle.model.specs.History.{History}
use Rattle.model.specs.Run.{Call, call, recovery, World, next, run, first_world, state_after}
use Rattle.model.specs.Reached.{Demand3Companion}
use Rattle.model.proofs.laws.Tests.{and_left, and_right, true_is_not_false, Tested, holds, fails, test}
use Rattle.model.proofs.laws.Passing.{below}
use Rattle.model.proofs.laws.Calls.{Powered, lost, lasts, power_cases}
use Rattle.model.proofs.laws.Effects.{effect_accepted}
use Rattle.model.proofs.laws.Receiving.{message_open}
use Rattle.model.proofs.Soundness.{initialize_sound, answer_sound, recover_sound}
use Rattle.model.proofs.line.Facts.{Facts, facts}
use Rattle.model.proofs.Demand3.{end_holds, demand_3}

-- the refusals that are left to a step: 8 to 13
abbrev is_left : ℕ → Bool
is_left n = leb 8 n && leb n 13

abbrev Left : ℕ → Type 0
Left n = is_left n ≡ true

-- whichever check of the list is the first to fail has one of these
data AllLeft : List Check → Type 0 where
  end : AllLeft []
  check : {c : Check} {cs : List Check} → (c.fails ≡ true → Left c.refusal) → (c.fails ≡ false → AllLeft cs)
      → AllLeft (c ∷ cs)

left : {c : Check} {cs : List Check} → Left c.refusal → AllLeft cs → AllLeft (c ∷ cs)
left p q = check (λ _. p) (λ _. q)

first_left : (cs : List Check) (r : ℕ) → AllLeft cs → first_refusal cs ≡ some r → Left r
unfolding first_refusal
first_left [] r end e = absurd (some-ne-none r (sym e))
first_left (c ∷ cs) r (check here later) e = go (test c.fails) (first_left cs r)
  where
    go : Tested c.fails → (AllLeft cs → first_refusal cs ≡ some r → Left r) → Left r
    go (holds f) rest =
        let q : some c.refusal ≡ some r = rw f at e in
        let same : c.refusal ≡ r = cc in
        subst Left same (here f)
    go (fails f) rest = rest (later f) (rw f at e)

-- an effect is not refused, so a refused step is refused by its first check that fails
refused_by_lem : (s : GlobalState) (x : Step) (st : List ℕ) (budget : ℕ) (r : ℕ)
    → (answer s x st budget).outcome ≡ refused r
    → first_refusal (step_checks s (length st) x) ≡ some r
unfolding answer step result_of quietly
refused_by_lem s x st budget r e = go (first_refusal (step_checks s (length st) x)) (power_cases budget s st _) e
  where
    go : (o : Option ℕ) → Powered budget s st (result_of o s x)
        → (under_budget budget s st (result_of o s x)).outcome ≡ refused r → o ≡ some r
    go none (lost l q) f = let z : cut ≡ refused r = rw q at f in cc
    go none (lasts l q) f = true_is_not_false (effect_accepted s x) (ap accepted (rw q at f))
    go (some r') (lost l q) f = let z : cut ≡ refused r = rw q at f in cc
    go (some r') (lasts l q) f = let z : refused r' ≡ refused r = rw q at f in cc

-- 14: a message closes no channel, and where a marker is first in the logical phase its channel isn't closed
module _ (s : GlobalState) (st : List ℕ) (h : History) (fit : sound s ≡ true) (i : Facts s st h) where
  not_on_closed : (c : ℕ) → c < s.topology.channels → marker_on_closed s c ≡ false
  unfolding marker_on_closed first_reaction reaction reaction_to logs_only
  not_on_closed c l = go s.round.phase refl (s.channel c) refl
    where
      go : (ph : Phase) → s.round.phase ≡ ph → (es : List Entry) → s.channel c ≡ es
          → ((first_reaction s c es).closes && s.progress.closed c) ≡ false
      go ph e [] is = refl
      go ph e (Message b t ∷ es) is =
          rw (message_open s.round.phase c (receiver_at s (receiver s.topology c)) b t)
      go phase.Idle e (Marker ∷ es) is = rw e
      go (phase.Physical next) e (Marker ∷ es) is = rw e
      go phase.Logical e (Marker ∷ es) is = rw e (i.unclosed e c l is)

  own_left : (x : Step) → AllLeft (own_checks s x)
  unfolding own_checks prior_checks room_checks log_checks has_channel
  own_left (Send c b) = left refl (left refl end)
  own_left (Receive c) =
      check (λ _. refl)
      (λ e. left refl
      (check (λ f. true_is_not_false f (not_on_closed c (below c s.topology.channels e))) (λ _. left refl end)))
  own_left Begin = left refl (left refl end)
  own_left (PhysicalCheckpoint p) = left refl (left refl end)
  own_left (LogicalCheckpoint p) = left refl (left refl end)
  own_left (SendMarker c) = left refl (left refl (left refl end))
  own_left Commit = left refl end
  own_left Abort = left refl end

  step_left : (x : Step) → AllLeft (step_checks s (length st) x)
  unfolding step_checks
  step_left x =
      check (λ e. true_is_not_false fit (not-true (sound s) e))
      (λ _. check (λ e. true_is_not_false e (le-ltb (length st) store_cells i.cells)) (λ _. own_left x))

-- soundness lasts over the calls
call_sound : (T : Topology) (w : World) → sound w.state ≡ true → (c : Call) → sound (next T w c).state ≡ true
unfolding next state_after state_or
call_sound T w h (call x budget) = answer_sound w.state x w.store budget h
call_sound T w h recovery = go (recover T w.store).refusal refl
  where
    go : (o : Option ℕ) → (recover T w.store).refusal ≡ o
        → sound (state_or o (recover T w.store).state w.state) ≡ true
    go none e = recover_sound T w.store e
    go (some n) e = h

run_sound : (T : Topology) (w : World) → sound w.state ≡ true → (calls : List Call)
    → sound (run T w calls).state ≡ true
unfolding run
run_sound T w h [] = h
run_sound T w h (c ∷ cs) = run_sound T (next T w c) (call_sound T w h c) cs

pub reached : Demand3Companion
unfolding first_world
reached T store ready calls =
    let w : World = run T (first_world T store) calls in
    let fit : sound w.state ≡ true = run_sound T (first_world T store) (initialize_sound T store ready) calls in
    record {
      sound = fit;
      steps = λ x budget r e.
          in_range r
          (first_left (step_checks w.state (length w.store) x) r
          (step_left w.state w.store w.history fit (facts (end_holds T store ready calls).holds) x)
          (refused_by_lem w.state x w.store budget r e));
      recovers = (demand_3 T store ready calls).accepted;
    }
  where
    in_range : (n : ℕ) → (leb 8 n && leb n 13) ≡ true → (8 ≤ n) × (n ≤ 13)
    in_range n e = (leb-true 8 n (and_left (leb 8 n) (leb n 13) e), leb-true n 13 (and_right (leb 8 n) (leb n 13) e))
