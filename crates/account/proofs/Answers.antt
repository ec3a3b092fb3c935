-- What the past tells of the round, the tags, the flags and the counts after any answer to a step, after a recover
-- and at setup.
use Prim.Native.Nat.{ℕ, ◌<◌}
use mathlib.Core.Path.{◌≡◌, refl, sym, ap}
use mathlib.Core.Bool.{Bool, false}
use mathlib.Core.List.{List, [], ◌∷◌}
use mathlib.Core.Option.{none}
use Rattle.model.specs.declared.Topology.{Topology}
use Rattle.model.specs.declared.Round.{Round}
use Rattle.model.specs.declared.Phase.{Phase}
use Rattle.model.specs.declared.Phase.TheVariants.{Idle, Physical, Logical}
use Rattle.model.specs.declared.Entry.{Entry}
use Rattle.model.specs.declared.Entry.TheVariants.{Message, Marker}
use Rattle.model.specs.declared.Step.{Step}
use Rattle.model.specs.declared.Step.TheVariants.{Send, Receive, Begin, PhysicalCheckpoint}
use Rattle.model.specs.declared.Step.TheVariants.{LogicalCheckpoint, SendMarker, Commit, Abort}
use Rattle.model.specs.declared.Record.TheVariants as records
use Rattle.model.specs.Topology.{receiver, topology_refusal}
use Rattle.model.specs.Channel.{bodies, messages, markerless, no_entry, receipt_of}
use Rattle.model.specs.State.{GlobalState, no_progress, no_counts, idle_state}
use Rattle.model.specs.Heard.{Heard, heard, is_accepted}
use Rattle.model.specs.Receive.{reaction_to, receiver_at}
use Rattle.model.specs.Write.{Answered}
use Rattle.model.specs.Step.{effect, answer, reaction, received_outcome, receive}
use Rattle.model.specs.Record.{Fields, fields_of}
use Rattle.model.specs.Start.{recover, recover_said, line_or}
use Rattle.model.specs.History.{History}
use Rattle.model.proofs.laws.Tests.{true_is_not_false}
use Rattle.model.proofs.laws.Passing.{Prior, MayReceive}
use Rattle.model.proofs.laws.Receiving.{receive_takes}
use Rattle.model.proofs.laws.ChannelLaws.{messages_markerless}
use Rattle.model.proofs.laws.Calls.{Answering, unheard, answers, answer_cases}
use Rattle.model.proofs.line.Invariant.{Inv}
use Rattle.model.proofs.line.Phases.{channel_in}
use Rattle.model.proofs.line.RecoverKept.{recovers, recovered_state}
use Rattle.account.specs.Deeds.{Past, deed_by, any, number, since}
use Rattle.account.specs.Round.{line_of, phase_of, turned, this_round}
use Rattle.account.specs.Progress.{closed_in, marker_sent, saved_in}
use Rattle.account.specs.Logs.{since_clear, messages_logged, channel_logged}
use Rattle.account.specs.Contents.{turned_by}
use Rattle.account.proofs.Told.{Told, deed_with, deed_in, deed_after, none_saved, send_told, begin_told}
use Rattle.account.proofs.Told.{physical_told, mark_told, marker_told, commit_told, abort_told}
use Rattle.account.proofs.Receipts.{delivers, message_told, marker_received}

-- a channel of plain messages has no marker
plain_has_none : {X : Type 0} (t : Bool) (es : List Entry) → Marker ∷ es ≡ messages t (bodies (Marker ∷ es)) → X
unfolding markerless
plain_has_none t es e = true_is_not_false (messages_markerless t (bodies (Marker ∷ es))) (sym (ap markerless e))

module _ (s : GlobalState) (st : List ℕ) (h : History) (inv : Inv s st h) where
  -- so a marker is received in the logical phase alone
  marker_logical : (c : ℕ) → c < s.topology.channels → (es : List Entry) → s.channel c ≡ Marker ∷ es
      → s.round.phase ≡ Logical
  marker_logical c l es is = go s.round.phase refl
    where
      go : (ph : Phase) → s.round.phase ≡ ph → ph ≡ Logical
      go Idle e = plain_has_none inv.tag es (rw is at (channel_in inv e c l).round)
      go (Physical next) e = plain_has_none inv.tag es (rw is at (channel_in inv e c l).round.plain)
      go Logical e = refl

  module _ (past : Past) (i : Told s.topology s past) where
    receive_told : (c : ℕ) → MayReceive s c
        → Told s.topology (effect s (Receive c)).state (deed_in s (Receive c) ∷ past)
    unfolding effect receive received_outcome reaction no_entry
    receive_told c may = go (s.channel c) refl
      where
        r : ℕ
        r = receiver s.topology c

        go : (es : List Entry) → s.channel c ≡ es
            → Told s.topology (receive s c es).state (deed_with (Receive c) (receive s c es) ∷ past)
        go [] e = true_is_not_false refl (rw e at may.entry)
        go (Message b t ∷ es) is =
            rw (receive_takes s c (Message b t) es)
            (message_told s past i c b (receipt_of c (Message b t)) (reaction s c (Message b t))
            (delivers s.round.phase c (receiver_at s r) b t))
        go (Marker ∷ es) is =
            let logical = marker_logical c may.planned es is in
            rw (receive_takes s c Marker es)
            (marker_received s past i c (receipt_of c Marker) (reaction s c Marker) (rw logical)
            (ap (λ (ph : Phase). reaction_to ph c (receiver_at s r) Marker) logical))

    effect_told : (x : Step) → Prior s x → Told s.topology (effect s x).state (deed_in s x ∷ past)
    effect_told (Send c b) p = send_told s past i c b
    effect_told (Receive c) p = receive_told c p
    effect_told Begin p = begin_told s past i p
    effect_told (PhysicalCheckpoint q) p = physical_told s past i q p
    effect_told (LogicalCheckpoint q) p = mark_told s past i q p
    effect_told (SendMarker c) p = marker_told s past i c p
    effect_told Commit p = commit_told s past i p
    effect_told Abort p = abort_told s past i

    -- a call that was not accepted did nothing
    unheard_told : (f : Fields) (o : Heard) (made : ℕ) → is_accepted o ≡ false
        → Told s.topology s (deed_by f o made ∷ past)
    unfolding deed_by line_of number phase_of saved_in closed_in marker_sent this_round since any messages_logged
        channel_logged since_clear turned
    unheard_told f o made e = rw e i

    pub answer_told : (x : Step) (budget : ℕ)
        → let a : Answered = answer s x st budget in Told s.topology a.state (deed_after x a ∷ past)
    answer_told x budget = go (answer_cases s x st budget)
      where
        go : Answering s x st budget
            → let a : Answered = answer s x st budget in Told s.topology a.state (deed_after x a ∷ past)
        go (unheard z e) = rw e (unheard_told _ _ _ z)
        go (answers a e) = rw e (effect_told x a.prior)

    -- a recover, which is accepted
    pub recover_told : topology_refusal s.topology ≡ none
        → Told s.topology (recover s.topology st).state
        (deed_by (fields_of records.Recover) (heard (recover_said (recover s.topology st))) 0 ∷ past)
    unfolding idle_state no_progress no_counts recover_said line_or deed_by fields_of line_of number phase_of saved_in
        closed_in marker_sent this_round since any messages_logged channel_logged since_clear turned turned_by
    recover_told good =
        rw ((recovers s st h good inv).accepted, recovered_state s st h good inv)
        (record {
          round = ap (λ (now : Round). record { line = now.line; phase = Idle }) i.round;
          tag = λ p l. refl;
          saved = none_saved s.topology;
          closed = refl;
          sent = refl;
          counts = refl;
          quiet = λ e. refl;
        })

-- setup
pub first_told : (T : Topology) → Told T (idle_state T 0 (λ p. 0) (λ c. [])) []
unfolding idle_state no_progress no_counts line_of number phase_of saved_in closed_in marker_sent this_round since any
    messages_logged channel_logged since_clear turned turned_by
first_told T =
    record {
      round = refl;
      tag = λ p l. refl;
      saved = none_saved T;
      closed = refl;
      sent = refl;
      counts = refl;
      quiet = λ e. refl;
    }
