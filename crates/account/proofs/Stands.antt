-- After any step's answer: the histories are fed what was done, and the channels are as the past tells.
use Prim.Native.Nat.{ℕ, ◌<◌}
use mathlib.Core.Path.{◌≡◌, refl, sym, ap, subst, ◌∙◌}
use mathlib.Core.Bool.{Bool, true, false}
use mathlib.Core.List.{List, [], ◌∷◌}
use mathlib.Core.Option.{none}
use Rattle.model.specs.declared.Topology.{Topology}
use Rattle.model.specs.declared.Entry.{Entry}
use Rattle.model.specs.declared.Entry.TheVariants.{Message, Marker}
use Rattle.model.specs.declared.Step.{Step}
use Rattle.model.specs.declared.Step.TheVariants.{Send, Receive, Begin, PhysicalCheckpoint}
use Rattle.model.specs.declared.Step.TheVariants.{LogicalCheckpoint, SendMarker, Commit, Abort}
use Rattle.model.specs.Topology.{topology_refusal}
use Rattle.model.specs.Channel.{no_entry}
use Rattle.model.specs.Phase.{is_logical}
use Rattle.model.specs.State.{GlobalState, Progress, no_progress}
use Rattle.model.specs.Change.{with_round, end_round}
use Rattle.model.specs.Heard.{heard}
use Rattle.model.specs.Write.{Result, Answered}
use Rattle.model.specs.Step.{effect, quietly, received_outcome, receive, answer}
use Rattle.model.specs.Record.{fields_of}
use Rattle.model.specs.History.{History, on_step, on_accepted, on_receive}
use Rattle.model.proofs.laws.Tests.{true_is_not_false, Tested, holds, fails, test}
use Rattle.model.proofs.laws.Passing.{Prior, MayBegin}
use Rattle.model.proofs.laws.Calls.{Answering, unheard, answers, answer_cases}
use Rattle.model.proofs.laws.Effects.{answer_follows}
use Rattle.model.proofs.laws.Receiving.{receive_takes}
use Rattle.model.proofs.laws.ChannelEffects.{Becomes, stays, effect_becomes}
use Rattle.model.proofs.line.Invariant.{Inv}
use Rattle.model.proofs.line.Phases.{is_idle_lem}
use Rattle.model.proofs.line.StepKept.{step_kept}
use Rattle.account.specs.Deeds.{Past, deed_by, any, number, since}
use Rattle.account.specs.Round.{turned, this_round}
use Rattle.account.specs.Progress.{closed_in, marker_sent}
use Rattle.account.specs.Contents.{behind, channel_by, on_deed, on_receipt}
use Rattle.account.proofs.Told.{Told, deed_with, deed_in, deed_after}
use Rattle.account.proofs.Answers.{answer_told}
use Rattle.account.proofs.Plain.{Stands, plain_in}
use Rattle.account.proofs.Entries.{send_stands, mark_stands, marker_stands, message_stands, closing_stands}

module _ (s : GlobalState) (h : History) where
  abbrev fed : Step → History
  fed x = on_step s.topology x (heard (effect s x).outcome) h

  effect_fed : (x : Step) → Prior s x → fed x ≡ on_deed s.topology (deed_in s x) h
  unfolding on_step on_accepted on_receive effect quietly receive received_outcome deed_by fields_of on_deed on_receipt
      no_entry
  effect_fed (Send c b) p = refl
  effect_fed (Receive c) p = go (s.channel c) p.entry
    where
      go : (es : List Entry) → no_entry es ≡ false
          → let r : Result = receive s c es in
          on_step s.topology (Receive c) (heard r.outcome) h ≡ on_deed s.topology (deed_with (Receive c) r) h
      go [] e = true_is_not_false refl e
      go (Message b t ∷ es) e = refl
      go (Marker ∷ es) e = refl
  effect_fed Begin p = refl
  effect_fed (PhysicalCheckpoint q) p = refl
  effect_fed (LogicalCheckpoint q) p = refl
  effect_fed (SendMarker c) p = refl
  effect_fed Commit p = refl
  effect_fed Abort p = refl

  pub answer_fed : (x : Step) (st : List ℕ) (budget : ℕ)
      → let a : Answered = answer s x st budget in
      on_step s.topology x (heard a.outcome) h ≡ on_deed s.topology (deed_after x a) h
  unfolding on_step on_deed deed_by
  answer_fed x st budget = go (answer_cases s x st budget)
    where
      go : Answering s x st budget
          → let a : Answered = answer s x st budget in
          on_step s.topology x (heard a.outcome) h ≡ on_deed s.topology (deed_after x a) h
      go (unheard z e) = rw z
      go (answers a e) = rw e (effect_fed x a.prior)

module _ (s : GlobalState) (st : List ℕ) (h : History) (inv : Inv s st h) (past : Past) (i : Told s.topology s past)
    (good : topology_refusal s.topology ≡ none) (k : Stands s.topology s.channel past h) where
  abbrev T : Topology
  T = s.topology

  receive_stands : (d : ℕ) → d < T.channels → (es : List Entry) → s.channel d ≡ es → no_entry es ≡ false
      → let r : Result = receive s d es in
      Stands T r.state.channel (deed_with (Receive d) r ∷ past) (on_step T (Receive d) (heard r.outcome) h)
  unfolding received_outcome on_step on_accepted on_receive no_entry receive
  receive_stands d l [] is e = true_is_not_false refl e
  receive_stands d l (Message b t ∷ es) is e =
      rw (receive_takes s d (Message b t) es) (message_stands s st h inv past i good k d b t es l is _)
  receive_stands d l (Marker ∷ es) is e =
      rw (receive_takes s d Marker es) (closing_stands s st h inv past i good k d es l is _)

  -- a begin and a physical checkpoint leave the channels
  begin_leaves : (c : ℕ) → (effect s Begin).state.channel c ≡ s.channel c
  begin_leaves c = go (effect_becomes s Begin c)
    where
      go : {es : List Entry} → Becomes s c Begin es → es ≡ s.channel c
      go stays = refl

  physical_leaves : (p c : ℕ) → (effect s (PhysicalCheckpoint p)).state.channel c ≡ s.channel c
  physical_leaves p c = go (effect_becomes s (PhysicalCheckpoint p) c)
    where
      go : {es : List Entry} → Becomes s c (PhysicalCheckpoint p) es → es ≡ s.channel c
      go stays = refl

  -- where a begin starts the logical phase, no marker was sent before it
  begin_stands : MayBegin s → Stands T (effect s Begin).state.channel (deed_in s Begin ∷ past) h
  unfolding effect no_progress deed_by fields_of number since any this_round marker_sent closed_in turned behind
      channel_by
  begin_stands may c lc = begin_leaves c ∙ k c lc ∙ rw (unsent c)
    where
      unsent : (c : ℕ) → marker_sent c past ≡ false
      unsent c =
          ap (λ (f : ℕ → Bool). f c) (sym i.sent)
          ∙ ap (λ (f : Progress). f.sent c) (i.quiet (rw (is_idle_lem s.round.phase may.idle)))

  physical_stands : (p : ℕ)
      → Stands T (effect s (PhysicalCheckpoint p)).state.channel (deed_in s (PhysicalCheckpoint p) ∷ past) h
  unfolding effect deed_by fields_of number since any this_round marker_sent closed_in turned behind channel_by
  physical_stands p c lc = physical_leaves p c ∙ k c lc

  -- in the logical phase
  effect_stands : (x : Step) → Prior s x → is_logical (effect s x).state.round.phase ≡ true
      → Stands T (effect s x).state.channel (deed_in s x ∷ past) (fed s h x)
  unfolding on_step on_accepted effect quietly end_round with_round
  effect_stands (Send c b) p y = send_stands s st h inv past i good k c b p
  effect_stands (Receive c) p y = receive_stands c p.planned (s.channel c) refl p.entry
  effect_stands Begin p y = begin_stands p
  effect_stands (PhysicalCheckpoint q) p y = physical_stands q
  effect_stands (LogicalCheckpoint q) p y = mark_stands s st h inv past i good k q p.planned p.unmarked
  effect_stands (SendMarker c) p y = marker_stands s st h inv past i good k c p
  effect_stands Commit p y = true_is_not_false y refl
  effect_stands Abort p y = true_is_not_false y refl

  pub answer_stands : (x : Step) (budget : ℕ)
      → let a : Answered = answer s x st budget in
      Stands T a.state.channel (deed_after x a ∷ past) (on_step T x (heard a.outcome) h)
  unfolding on_step deed_by any since number this_round marker_sent closed_in turned behind channel_by
  answer_stands x budget = go (test (is_logical after.state.round.phase))
    where
      after : Answered
      after = answer s x st budget

      Here : Answered → Type 0
      Here a = Stands T a.state.channel (deed_after x a ∷ past) (on_step T x (heard a.outcome) h)

      within_round : is_logical after.state.round.phase ≡ true → Answering s x st budget → Here after
      within_round y (unheard z e) = rw (e, z) k
      within_round y (answers a e) = subst Here (sym e) (effect_stands x a.prior (rw e at y))

      go : Tested (is_logical after.state.round.phase) → Here after
      go (holds y) = within_round y (answer_cases s x st budget)
      go (fails y) =
          plain_in T after.state after.store (on_step T x (heard after.outcome) h)
          (step_kept s st h inv x budget) (deed_after x after ∷ past) (answer_follows s x st budget).topology
          (answer_told s st h inv past i x budget) good y
