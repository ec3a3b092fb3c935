-- The answers so far are the run's, so the past is that of its trace; then the state worked out is the run's, and so is
-- the next answer.
use Prim.Native.Nat.{ℕ, zero, suc}
use mathlib.Core.Path.{◌≡◌, refl, sym, ap, subst, ◌∙◌}
use mathlib.Core.Bool.{Bool, true, false, cond}
use mathlib.Core.List.{List, [], ◌∷◌, ◌++◌, map, map-append}
use mathlib.Core.Option.{none, or_else}
use lib.ListN.{get_or, length, replicate, length-replicate}
use borrow.Author.Tests.{lt-ltb}
use Rattle.model.specs.declared.Topology.{Topology}
use Rattle.model.specs.declared.Record.{Record}
use Rattle.model.specs.declared.Record.TheVariants as records
use Rattle.model.specs.declared.Step.{Step}
use Rattle.model.specs.declared.Step.TheVariants.{Send, Receive, Begin, PhysicalCheckpoint}
use Rattle.model.specs.declared.Step.TheVariants.{LogicalCheckpoint, SendMarker, Commit, Abort}
use Rattle.model.specs.Notation.{tabulate}
use Rattle.model.specs.Heard.{accepted}
use Rattle.model.specs.CallList.{call_at}
use Rattle.model.specs.Check.{first_refusal}
use Rattle.model.specs.Topology.{topology_refusal}
use Rattle.model.specs.Layout.{present, store_cells, message_log, channel_log}
use Rattle.model.specs.State.{GlobalState}
use Rattle.model.specs.Sound.{sound}
use Rattle.model.specs.Recover as form
use Rattle.model.specs.Start.{initialize}
use Rattle.model.specs.Record.{Fields, fields_of}
use Rattle.model.specs.Program.{full_budget}
use Rattle.model.specs.ProgramsAreRuns.{call_with}
use Rattle.model.specs.Run.{Call, World, Reply, reply_to, trace}
use Rattle.model.proofs.laws.Passing.{Prior}
use Rattle.model.proofs.laws.Calls.{initialize_refusal_lem, accepted_passes}
use Rattle.model.proofs.laws.SoundLaws.{Sound, sound_facts, entries_fit}
use Rattle.model.proofs.Trace.{trace_append}
use Rattle.model.proofs.Demand3.{end_holds}
use Rattle.account.specs.declared.Deed.{Deed}
use Rattle.slow.specs.declared.deeds.Past.{Past}
use Rattle.slow.specs.declared.CallAnswer.{CallAnswer}
use Rattle.account.specs.Deeds.{deed_by, deed_of, fields_for, onto, did}
use Rattle.account.specs.Standing.{state_of, state_from}
use Rattle.account.specs.Judging.{judge}
use Rattle.slow.specs.Replays.{unanswered, start}
use Rattle.slow.specs.SoFar.{Says, Answered, world_at, reply_at}
use Rattle.slow.specs.Kept.{past_of, latest, deed_for, asked, unheard}
use Rattle.slow.specs.Seen.{Fits, AllFit}
use Rattle.slow.specs.Parts.{Small, Ready, Judges}
use Rattle.account.proofs.PastIsState.{past_is_state}
use Rattle.account.proofs.Next.{told_sound, next_answer}
use Rattle.slow.proofs.Pasts.{latest_cong}

-- what a call did, by its answer and by the reply
fields_of_lem : (content : Record) → fields_for (call_with full_budget content) ≡ fields_of content
unfolding fields_for call_with
fields_of_lem (records.Call x) = refl
fields_of_lem records.Recover = refl

call_of_lem : (T : Topology) (w : World) (content : Record)
    → (reply_to T w (call_with full_budget content)).call ≡ call_with full_budget content
unfolding reply_to call_with
call_of_lem T w (records.Call x) = refl
call_of_lem T w records.Recover = refl

deed_is : (T : Topology) (calls : List Record) (answers : List CallAnswer) (i : ℕ)
    → Says (get_or answers i unanswered) (reply_at T (call_at calls) i)
    → deed_for calls answers i ≡ deed_of (reply_at T (call_at calls) i)
unfolding deed_of
deed_is T calls answers i s =
    let content = call_at calls i in
    rw (s.outcome, s.made, call_of_lem T (world_at T (call_at calls) i) content, fields_of_lem content)

-- A deed of an accepted call names what is planned.
abbrev deed_when : Bool → Fields → ℕ → Bool → ℕ → Deed
deed_when t f body marker made =
    record {
      kind = cond t f.kind 0;
      process = f.process;
      channel = f.channel;
      body = body;
      marker = marker;
      made = made;
    }

unasked : (T : Topology) (d : Deed) → did 1 d ≡ false → did 2 d ≡ false → did 5 d ≡ false → Fits T d
unasked T d a b e = record { sends = λ t. cc; receives = λ t. cc; marks = λ t. cc }

module _ (s : GlobalState) (b : ℕ) (m : Bool) (made : ℕ) where
  step_fits : (x : Step) (t : Bool) → (t ≡ true → Prior s x)
      → Fits s.topology (deed_when t (fields_of (records.Call x)) b m made)
  unfolding fields_of
  step_fits x false prior = unasked _ _ refl refl refl
  step_fits (Send c a) true prior =
      record { sends = λ t. prior refl; receives = λ t. cc; marks = λ t. cc }
  step_fits (Receive c) true prior =
      record { sends = λ t. cc; receives = λ t. (prior refl).planned; marks = λ t. cc }
  step_fits (LogicalCheckpoint p) true prior =
      record { sends = λ t. cc; receives = λ t. cc; marks = λ t. (prior refl).planned }
  step_fits Begin true prior = unasked _ _ refl refl refl
  step_fits (PhysicalCheckpoint p) true prior = unasked _ _ refl refl refl
  step_fits (SendMarker c) true prior = unasked _ _ refl refl refl
  step_fits Commit true prior = unasked _ _ refl refl refl
  step_fits Abort true prior = unasked _ _ refl refl refl

  recover_fits : (t : Bool) → Fits s.topology (deed_when t (fields_of records.Recover) b m made)
  unfolding fields_of
  recover_fits true = unasked _ _ refl refl refl
  recover_fits false = unasked _ _ refl refl refl

planned : (T : Topology) (w : World) (content : Record)
    → Fits w.state.topology (deed_of (reply_to T w (call_with full_budget content)))
unfolding deed_of deed_by reply_to call_with fields_for
planned T w (records.Call x) =
    step_fits w.state _ _ _ x _ (λ t. (accepted_passes w.state x w.store full_budget t).0.prior)
planned T w records.Recover =
    recover_fits w.state _ _ _ (accepted (reply_to T w (call_with full_budget records.Recover)).outcome)

-- the trace, call by call
onto_more : (past : List Deed) (rs : List Reply) (r : Reply) → onto past (rs ++ (r ∷ [])) ≡ deed_of r ∷ onto past rs
unfolding onto
onto_more past [] r = refl
onto_more past (x ∷ rs) r = onto_more (deed_of x ∷ past) rs r

onto_is : (g : ℕ → Reply) (n : ℕ) → onto [] (tabulate n g) ≡ latest n (λ k. deed_of (g k))
unfolding tabulate latest onto
onto_is g zero = refl
onto_is g (suc n) = onto_more [] (tabulate n g) (g n) ∙ ap (λ (l : List Deed). deed_of (g n) ∷ l) (onto_is g n)

module _ (T : Topology) where
  abbrev made : (ℕ → Record) → ℕ → List Call
  made f n = map (call_with full_budget) (tabulate n f)

  pub trace_is : (f : ℕ → Record) (n : ℕ) → trace T (start T) (made f n) ≡ tabulate n (reply_at T f)
  unfolding tabulate trace
  trace_is f zero = refl
  trace_is f (suc n) =
      ap (trace T (start T)) (map-append (call_with full_budget) (tabulate n f) (f n ∷ []))
      ∙ trace_append T (start T) (made f n) (call_with full_budget (f n) ∷ [])
      ∙ ap (λ (l : List Reply). l ++ (reply_at T f n ∷ [])) (trace_is f n)

  -- nothing is over its room
  all_small : (ds : List Deed) → sound (state_of T ds) ≡ true → Small T ds
  unfolding state_of state_from
  all_small ds fit =
      let facts : Sound (state_of T ds) = sound_facts (state_of T ds) fit in
      record {
        messages = λ p l. rw (lt-ltb p T.processes l) at (facts.logs (message_log p) l);
        channels = λ c l. rw (lt-ltb c T.channels l) at (facts.logs (channel_log c) l);
        room = λ c l. rw (lt-ltb c T.channels l) at (entries_fit (state_of T ds) facts c l);
      }

  -- setup is accepted
  module _ (good : topology_refusal T ≡ none) where
    ready : (initialize T (replicate store_cells 0)).refusal ≡ none
    unfolding form.initialize_refusal first_refusal or_else
    ready =
        initialize_refusal_lem T (replicate store_cells 0)
        ∙ ap (λ (n : ℕ). form.initialize_refusal present T n) (length-replicate {A = ℕ} store_cells 0) ∙ rw good

    all_planned : (f : ℕ → Record) (n : ℕ) → AllFit T (latest n (λ k. deed_of (reply_at T f k)))
    unfolding latest
    all_planned f zero = tt
    all_planned f (suc n) =
        let own = (end_holds T (replicate store_cells 0) ready (made f n)).topology in
        let fits = subst (λ (X : Topology). Fits X (deed_of (reply_at T f n))) own (planned T (world_at T f n) (f n)) in
        (fits, all_planned f n)

    -- The past that answers tell, where they are the run's.
    module _ {calls : List Record} {answers : List CallAnswer} (past : Past)
        (told : Answered T calls answers) (is : past_of past ≡ latest (length answers) (deed_for calls answers)) where
      abbrev n : ℕ
      n = length answers

      as_replied : past_of past ≡ latest n (λ k. deed_of (reply_at T (call_at calls) k))
      as_replied = is ∙ latest_cong n _ _ (λ i l. deed_is T calls answers i (told.told i l))

      as_traced : past_of past ≡ onto [] (trace T (start T) (made (call_at calls) n))
      as_traced =
          as_replied ∙ sym (ap (onto []) (trace_is (call_at calls) n) ∙ onto_is (reply_at T (call_at calls)) n)

      pub told_ready : Ready T past
      told_ready =
          record {
            fit = rw as_replied (all_planned (call_at calls) n);
            good = good;
            small =
                all_small (past_of past)
                (rw as_traced (told_sound T (replicate store_cells 0) ready (made (call_at calls) n)));
          }

      pub told_state : state_of T (past_of past) ≡ (world_at T (call_at calls) n).state
      told_state =
          ap (state_of T) as_traced ∙ past_is_state T (replicate store_cells 0) ready (made (call_at calls) n)

    -- the answer in the run's state
    judged_as : (f : ℕ → Record) (n : ℕ) → judge (world_at T f n).state (call_with full_budget (f n)) ≡ reply_at T f n
    judged_as f n =
        ap (λ (s : GlobalState). judge s (call_with full_budget (f n)))
        (sym (past_is_state T (replicate store_cells 0) ready (made f n)))
        ∙ next_answer T (replicate store_cells 0) ready (made f n) (f n)

    pub next_says : (f : ℕ → Record) (n : ℕ) (s : GlobalState) (d : Deed) (a : CallAnswer)
        → s ≡ (world_at T f n).state → d ≡ unheard (fields_of (f n)) → Judges s (asked d) a → Says a (reply_at T f n)
    unfolding deed_by judge
    next_says f n s d a e u j =
        subst (Says a) (judged_as f n)
        (rw (fields_of_lem (f n), ← e) (record { outcome = rw u at j.outcome; made = rw u at j.made }))
