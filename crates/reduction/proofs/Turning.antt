-- Laws of a single call: what is answered is what `head` would serve.
use Rattle.std.proofs.Common.{◌≡◌, ℕ, List, replicate, refl, sym, ◌∙◌}
use Rattle.std.specs.Prelude.{Result, Ok, Err, IsOk}
use mathlib.Core.Option.{Option, none, some, some-ne-none, or_else}
use Rattle.model.specs.declared.Answer.{Answer}
use Rattle.model.specs.declared.Refusal.{Refusal}
use Rattle.model.specs.declared.State.{State}
use Rattle.model.specs.declared.Step.{Step}
use Rattle.model.specs.declared.Record.TheVariants.{Call, Recover}
use Rattle.model.specs.declared.Topology.{Topology}
use Rattle.model.specs.State.{view}
use Rattle.model.specs.Outcome.{refused_with, room_said, said_by, refusal_of}
use Rattle.model.specs.Check.{first_refusal}
use Rattle.model.specs.Layout.{store_cells}
use Rattle.model.specs.Recover as recovery
use Rattle.model.specs.Start.{initialize, recover, line_or, recover_said, state_or}
use Rattle.model.specs.Topology.{topology_refusal}
use Rattle.model.specs.Program.{Served, full_budget, serve, of_answer, of_startup}
use Rattle.model.proofs.laws.Calls.{initialize_refusal_lem}
use Rattle.engine.specs.Answers.{Answers}
use Rattle.recovery.specs.Starts.{Starts}
use Rattle.reduction.specs.Replays.{Says}

-- what a call's answer says, its state and its store are those that the definition has
pub record Turns (x : Served) (r : Result ℕ Refusal) (s : State) (left : List ℕ) : Type 0 where
  pub says : Says x.said r
  pub state : view s ≡ x.state
  pub store : left ≡ x.store

-- what a recover's line says of refusals, and of room
refused_line : (r : Option ℕ) (k : ℕ) → refused_with (line_or r k) ≡ r
unfolding refused_with line_or
refused_line none k = refl
refused_line (some n) k = refl

no_room_lem : (r : Option ℕ) (k : ℕ) → 0 ≡ room_said (line_or r k)
unfolding line_or
no_room_lem none k = refl
no_room_lem (some n) k = refl

module _ (T : Topology) (s : State) (store : List ℕ) where
  pub step_turns : (x : Step) {a : Answer} {left : List ℕ} {r : Result ℕ Refusal}
      → Answers s x store full_budget a left → Says (said_by a.outcome) r
      → Turns (serve T (view s) store full_budget (Call x)) r a.state left
  unfolding serve of_answer
  step_turns x m says = record { says = rw m.outcome at says; state = m.state; store = m.store }

  -- a recover's state, or the one before it
  pub recover_turns : {after : State} → Starts (recover T store) (Ok after) store
      → Turns (serve T (view s) store full_budget Recover) (Ok 0) after store
  unfolding serve of_startup recover_said state_or refusal_of
  recover_turns m =
      record {
        says = record { refusal = sym (refused_line _ _ ∙ sym m.start); room = no_room_lem _ _ };
        state = rw (sym m.start) m.state;
        store = m.store;
      }

  pub recover_refused : {n : Refusal} → Starts (recover T store) (Err n) store
      → Turns (serve T (view s) store full_budget Recover) (Err n) s store
  unfolding serve of_startup recover_said state_or refusal_of
  recover_refused m =
      record {
        says = record { refusal = sym (refused_line _ _ ∙ sym m.start); room = tt };
        state = rw (sym m.start);
        store = m.store;
      }

-- an initialize of a topology that isn't refused, on a store of zeros, isn't
initialize_passes : (T : Topology) → topology_refusal T ≡ none
    → (initialize T (replicate store_cells 0)).refusal ≡ none
unfolding recovery.initialize_refusal first_refusal or_else
initialize_passes T e =
    initialize_refusal_lem T (replicate store_cells 0) ∙ rw e

pub initialized : (T : Topology) {r : Result State Refusal} {after : List ℕ} → topology_refusal T ≡ none
    → Starts (initialize T (replicate store_cells 0)) r after → IsOk r
initialized T {r = Ok s} e m = refl
initialized T {r = Err n} e m = absurd (some-ne-none _ (m.start ∙ initialize_passes _ e))
