-- All that is known of a world by its past (`Known`): it holds at setup (`known_first`) and after every call
-- (`known_next`, `known_run`), and it makes the state that the past tells the world's (`known_state`).
use Prim.Native.Nat.{ℕ, ◌<◌, ◌≤◌}
use mathlib.Core.Path.{◌≡◌, refl, sym, ap, subst, fun_ext, ◌∙◌}
use mathlib.Core.Bool.{cond}
use mathlib.Core.List.{List, [], ◌∷◌}
use mathlib.Core.Option.{none}
use lib.Dec.{ltb}
use borrow.Author.Tests.{ltb-true, ltb-false, le-ltb}
use Rattle.model.specs.declared.Topology.{Topology}
use Rattle.model.specs.declared.Step.{Step}
use Rattle.model.specs.Topology.{has_process, has_channel, topology_refusal}
use Rattle.model.specs.State.{GlobalState, idle_state}
use Rattle.model.specs.Record.{fields_of}
use Rattle.model.specs.Start.{recover, recover_said, line_or, state_or, initialize, startup_or}
use Rattle.model.specs.Recover as recovering
use Rattle.model.specs.History.{on_recover}
use Rattle.model.specs.Demand3.{Recovered}
use Rattle.model.specs.Run.{Call, call, recovery, World, reply_to, on_reply, on_call, next, run, trace, first_world}
use Rattle.model.specs.Run.{state_after, store_after}
use Rattle.model.proofs.laws.Tests.{Tested, holds, fails, test}
use Rattle.model.proofs.laws.HistoryLaws.{word_of}
use Rattle.model.proofs.laws.Calls.{initialize_refusal_lem}
use Rattle.model.proofs.line.Values.{book_of}
use Rattle.model.proofs.line.RecoverKept.{recovers, recovered_state, topology_accepted}
use Rattle.model.proofs.Demand3.{InvOf, call_keeps, end_holds}
use Rattle.account.specs.Deeds.{Past, fields_for, deed_by, deed_of, onto}
use Rattle.account.specs.Round.{turned}
use Rattle.account.specs.Contents.{history_of, on_deed, has_mark, turned_by}
use Rattle.account.specs.Standing.{within, state_from, state_of}
use Rattle.account.proofs.Told.{Told}
use Rattle.account.proofs.Answers.{answer_told, recover_told, first_told}
use Rattle.account.proofs.Plain.{Stands, mark_of, has_mark_lem, plain_in}
use Rattle.account.proofs.Stands.{answer_fed, answer_stands}
use Rattle.account.proofs.Beyond.{Beyond, answer_beyond, idle_beyond}

pub record Known (T : Topology) (w : World) (past : Past) : Type 0 where
  pub inv : InvOf T w
  pub told : Told T w.state past
  pub histories : w.history ≡ history_of T past
  pub stands : Stands T w.state.channel past w.history
  pub beyond : Beyond T w.state

-- the planned ones and the others
within_is : {A : Type 0} {n : ℕ} {f g : ℕ → A} {z : A} → ((i : ℕ) → i < n → f i ≡ g i) → ((i : ℕ) → n ≤ i → g i ≡ z)
    → within n f z ≡ g
within_is {n = n} {f} {g} {z} below above = fun_ext (λ i. go i (test (ltb i n)))
  where
    go : (i : ℕ) → Tested (ltb i n) → cond (ltb i n) (f i) z ≡ g i
    go i (holds e) = rw e (below i (ltb-true i n e))
    go i (fails e) = rw e (sym (above i (ltb-false i n e)))

-- by the topology that the state itself has
module _ (w : World) (past : Past) (good : topology_refusal w.state.topology ≡ none)
    (k : Known w.state.topology w past) where
  abbrev T : Topology
  T = w.state.topology

  abbrev s : GlobalState
  s = w.state

  marks : (p : ℕ) → p < T.processes → has_mark (w.history.mark p) ≡ s.progress.logical p
  marks p l = has_mark_lem (mark_of s w.store w.history k.inv.holds past k.told p l)

  own_state : state_of T past ≡ s
  unfolding state_from state_of book_of word_of
  own_state =
      ap (state_from T past) (sym k.histories)
      ∙ λ j.
      record {
        topology = T;
        round = sym k.told.round j;
        word = within_is (λ p l. sym (k.inv.holds.processes p l).now) k.beyond.word j;
        tag =
            within_is (λ p l. ap (turned_by (turned past)) (marks p l) ∙ sym (k.told.tag p l)) k.beyond.tag j;
        channel = within_is (λ c l. sym (k.stands c l)) k.beyond.channel j;
        progress =
            record {
              logical = within_is marks k.beyond.flags.logical j;
              saved = within_is (at k.told.saved) k.beyond.flags.saved j;
              closed = within_is (at k.told.closed) k.beyond.flags.closed j;
              sent = within_is (at k.told.sent) k.beyond.flags.sent j;
            };
        counts =
            record {
              messages = within_is (at (λ l. (k.told.counts l).messages)) k.beyond.counts.messages j;
              channels = within_is (at (λ l. (k.told.counts l).channels)) k.beyond.counts.channels j;
            };
      }
    where
      at : {A : Type 0} {n : ℕ} {f g : ℕ → A} → f ≡ g → (i : ℕ) → i < n → g i ≡ f i
      at {A} e i l = ap (λ (h : ℕ → A). h i) (sym e)

  -- a step
  own_step : (x : Step) (budget : ℕ)
      → Known T (next T w (call x budget)) (deed_of (reply_to T w (call x budget)) ∷ past)
  unfolding next reply_to on_reply on_call state_after store_after deed_of fields_for history_of
  own_step x budget =
      record {
        inv = call_keeps T good w k.inv (call x budget);
        told = answer_told s w.store w.history k.inv.holds past k.told x budget;
        histories =
            answer_fed s w.history x w.store budget
            ∙ ap (on_deed T (deed_of (reply_to T w (call x budget)))) k.histories;
        stands = answer_stands s w.store w.history k.inv.holds past k.told good k.stands x budget;
        beyond = answer_beyond s good k.beyond x w.store budget;
      }

  -- a recover, which is accepted
  own_recover : Known T (next T w recovery) (deed_of (reply_to T w recovery) ∷ past)
  unfolding next reply_to on_reply on_call state_after store_after deed_of fields_for history_of state_or recover_said
      line_or deed_by fields_of on_deed has_process has_channel recovering.recovered_word recovering.recovered_channel
  own_recover =
      record {
        inv = kept;
        told = tells;
        histories = rw answered.accepted (ap on_recover k.histories);
        stands =
            plain_in T after.state after.store after.history kept.holds _ kept.topology tells good
            (rw (state_is_lem, answered.idle));
        beyond =
            rw (state_is_lem, recovered_state s w.store w.history good k.inv.holds)
            (idle_beyond T s.round.line _ _ (λ p l. rw (le-ltb p T.processes l))
            (λ c l. rw (le-ltb c T.channels l)));
      }
    where
      after : World
      after = next T w recovery

      answered : Recovered T (recover T w.store) (on_recover w.history) s.round.line
      answered = recovers s w.store w.history good k.inv.holds

      kept : InvOf T after
      kept = call_keeps T good w k.inv recovery

      state_is_lem : after.state ≡ (recover T w.store).state
      state_is_lem = rw answered.accepted

      tells : Told T after.state (deed_of (reply_to T w recovery) ∷ past)
      tells =
          subst (λ (y : GlobalState). Told T y (deed_of (reply_to T w recovery) ∷ past)) (sym state_is_lem)
          (recover_told s w.store w.history k.inv.holds past k.told good)

module _ (T : Topology) (good : topology_refusal T ≡ none) where
  pub known_next : (w : World) (past : Past) → Known T w past → (c : Call)
      → Known T (next T w c) (deed_of (reply_to T w c) ∷ past)
  known_next w past k c =
      subst (λ (X : Topology). topology_refusal X ≡ none → Known X w past
      → Known X (next X w c) (deed_of (reply_to X w c) ∷ past)) k.inv.topology (own c) good k
    where
      own : (c : Call) → topology_refusal w.state.topology ≡ none → Known w.state.topology w past
          → let X : Topology = w.state.topology in Known X (next X w c) (deed_of (reply_to X w c) ∷ past)
      own (call x budget) ok j = own_step w past ok j x budget
      own recovery ok j = own_recover w past ok j

  pub known_run : (w : World) (past : Past) → Known T w past → (calls : List Call)
      → Known T (run T w calls) (onto past (trace T w calls))
  unfolding run trace onto
  known_run w past k [] = k
  known_run w past k (c ∷ cs) = known_run (next T w c) (deed_of (reply_to T w c) ∷ past) (known_next w past k c) cs

  pub known_state : (w : World) (past : Past) → Known T w past → state_of T past ≡ w.state
  known_state w past k =
      subst (λ (X : Topology). topology_refusal X ≡ none → Known X w past → state_of X past ≡ w.state)
      k.inv.topology (own_state w past) good k

pub known_first : (T : Topology) (store : List ℕ) → (initialize T store).refusal ≡ none
    → Known T (first_world T store) []
unfolding first_world initialize startup_or history_of run idle_state
known_first T store ready =
    record {
      inv = kept;
      told = tells;
      histories = refl;
      stands =
          plain_in T _ _ _ kept.holds [] kept.topology tells (topology_accepted T store ready) (rw state_is_lem);
      beyond = rw state_is_lem (idle_beyond T 0 _ _ (λ p l. refl) (λ c l. refl));
    }
  where
    kept : InvOf T (first_world T store)
    kept = end_holds T store ready []

    state_is_lem : (initialize T store).state ≡ idle_state T 0 (λ p. 0) (λ c. [])
    state_is_lem = rw (sym (initialize_refusal_lem T store) ∙ ready)

    tells : Told T (initialize T store).state []
    tells = subst (λ (s : GlobalState). Told T s []) (sym state_is_lem) (first_told T)
