-- What the past tells of a channel is what it holds, after each step that changes a channel or a mark: a send, a
-- logical checkpoint, a marker sent, a message received and a marker received.
use Prim.Native.Nat.{ℕ, ◌+◌, ◌<◌, ◌≤◌}
use mathlib.Core.Path.{◌≡◌, refl, sym, ap, ◌∙◌}
use mathlib.Core.Bool.{Bool, true, false, cond}
use mathlib.Core.List.{List, [], ◌∷◌, ◌++◌}
use mathlib.Core.Option.{Option, none, some}
use lib.ListN.{length, drop, length-append}
use borrow.Author.Tests.{eq-eqb, ne_eqb}
use native.Mathlib.Omega.{arith}
use Rattle.model.specs.declared.Topology.{Topology}
use Rattle.model.specs.declared.Entry.{Entry}
use Rattle.model.specs.declared.Entry.TheVariants.{Message, Marker}
use Rattle.model.specs.declared.Step.TheVariants.{Send, Receive, LogicalCheckpoint, SendMarker}
use Rattle.model.specs.declared.Record.TheVariants as records
use Rattle.model.specs.Notation.{upd}
use Rattle.model.specs.Topology.{sender, receiver, topology_refusal}
use Rattle.model.specs.Channel.{bodies, markerless}
use Rattle.model.specs.State.{GlobalState}
use Rattle.model.specs.Change.{set_entries, with_channel, with_tag, with_progress, logical_checkpoint, record_sent}
use Rattle.model.specs.Heard as hears
use Rattle.model.specs.Step.{effect, quietly}
use Rattle.model.specs.Record.{fields_of}
use Rattle.model.specs.History.{History, sent, received, bodies_on, is_after, add_event, mark_now, mark_unmarked}
use Rattle.model.specs.History.{sent_after_mark, on_message}
use Rattle.model.proofs.laws.Tests.{true_is_not_false, and_false, Tested, holds, fails, test, either}
use Rattle.model.proofs.laws.Functions.{by_index, upd_same, upd_other}
use Rattle.model.proofs.laws.TopologyLaws.{sender_planned}
use Rattle.model.proofs.laws.HistoryLaws.{sent_on, received_on, sent_elsewhere, received_elsewhere, send_is_no_receive}
use Rattle.model.proofs.laws.HistoryLaws.{receive_is_no_send}
use Rattle.model.proofs.laws.Passing.{MaySendMarker}
use Rattle.model.proofs.line.Values.{book_of, seen_of}
use Rattle.model.proofs.line.Invariant.{Inv}
use Rattle.model.proofs.line.Phases.{channel_in, is_logical_lem}
use Rattle.model.proofs.line.Books.{no_mark}
use Rattle.account.specs.Deeds.{Past, deed_by, any, number, since}
use Rattle.account.specs.Round.{turned, this_round}
use Rattle.account.specs.Progress.{closed_in, marker_sent}
use Rattle.account.specs.Contents.{turned_by, under_way, behind, with_marker, holds_marker, channel_by}
use Rattle.account.proofs.Told.{Told, deed_in}
use Rattle.account.proofs.Sends.{marker_last, marker_more, message_before_marker, marker_first}
use Rattle.account.proofs.UnderWay.{under_way_markerless, under_way_elsewhere, under_way_marked}
use Rattle.account.proofs.UnderWay.{under_way_sent, under_way_received}
use Rattle.account.proofs.Plain.{Stands, mark_of, end_after}

-- the marker before the last n of these messages, where there is one (m)
abbrev among : Bool → ℕ → List Entry → List Entry
among m n es = cond m (with_marker n es) es

-- one message more, the first message received, the marker received
among_more : (m : Bool) (n : ℕ) (es : List Entry) (x : Entry)
    → among m (n + 1) (es ++ (x ∷ [])) ≡ among m n es ++ (x ∷ [])
among_more true n es x = marker_more n es x
among_more false n es x = refl

among_first : (m : Bool) (n : ℕ) (es rest : List Entry) (b : ℕ) (u : Bool) → among m n es ≡ Message b u ∷ rest
    → among m n (drop 1 es) ≡ rest
among_first true n es rest b u e = message_before_marker n es rest b u e
among_first false n es rest b u e = ap (drop 1) e

among_received : (m : Bool) (n : ℕ) (es rest : List Entry) → markerless es ≡ true → among m n es ≡ Marker ∷ rest
    → es ≡ rest
unfolding markerless
among_received true n es rest none-there e = marker_first n es rest none-there e
among_received false n es rest none-there e = true_is_not_false none-there (ap markerless e)

module _ (s : GlobalState) (st : List ℕ) (h : History) (inv : Inv s st h) (past : Past) (i : Told s.topology s past)
    (good : topology_refusal s.topology ≡ none) (k : Stands s.topology s.channel past h) where
  abbrev T : Topology
  T = s.topology

  abbrev t : Bool
  t = turned past

  -- what is told of channel c, by what is under way on it
  abbrev here : ℕ → List Entry → List Entry
  here c es = among (holds_marker c past) (behind c past) es

  -- no more was received than was sent
  fewer : (c : ℕ) → c < T.channels
      → length (bodies_on received c (h.events (receiver T c))) ≤ length (bodies_on sent c (h.events (sender T c)))
  unfolding book_of seen_of
  fewer c l =
      omega (
        arith,
        ap length (inv.channels c l).now,
        length-append (bodies_on received c (h.events (receiver T c))) (bodies (s.channel c)),
      )

  -- entries put on channel d
  changed : (d : ℕ) (es : List Entry) {told : ℕ → List Entry} → es ≡ told d
      → ((c : ℕ) → (d ≡ c → ⊥) → c < T.channels → s.channel c ≡ told c)
      → (c : ℕ) → c < T.channels → upd s.channel d es c ≡ told c
  changed d es {told} at-d elsewhere =
      by_index (λ (c : ℕ). c < T.channels → upd s.channel d es c ≡ told c) d
      (λ l. upd_same s.channel d es ∙ at-d)
      (λ c n l. upd_other s.channel d c es n ∙ elsewhere c n l)

  pub send_stands : (d b : ℕ) → d < T.channels
      → Stands T (effect s (Send d b)).state.channel (deed_in s (Send d b) ∷ past)
      (add_event (sender T d) (sent_on d b) h)
  unfolding effect quietly set_entries with_channel deed_by fields_of number since any this_round marker_sent closed_in
      turned behind channel_by
  send_stands d b ld =
      changed d (s.channel d ++ (x ∷ []))
      (ap (λ (l : List Entry). l ++ (x ∷ [])) (k d ld)
      ∙ sym (among_more (holds_marker d past) (behind d past) (under_way T t h d) x)
      ∙ ap (among (holds_marker d past) (behind d past + 1))
      (ap (λ (u : Bool). under_way T t h d ++ (Message b u ∷ [])) (sym tag_is)
      ∙ sym (under_way_sent T t h d b (fewer d ld)))
      ∙ rw (eq-eqb d d refl))
      (λ c n lc. k c lc
      ∙ rw (
        ne_eqb d c n,
        under_way_elsewhere T t h c p (sent_on d b) (sent_elsewhere c d b n) (send_is_no_receive c d b),
      ))
    where
      p : ℕ
      p = sender T d

      x : Entry
      x = Message b (s.tag p)

      tag_is : turned_by t (is_after (h.mark p) (length (h.events p))) ≡ s.tag p
      tag_is =
          let lp = sender_planned T good d ld in
          ap (turned_by t) (end_after (mark_of s st h inv past i p lp)) ∙ sym (i.tag p lp)

  -- a logical checkpoint: nothing on the channels changes
  pub mark_stands : (p : ℕ) → p < T.processes → s.progress.logical p ≡ false
      → Stands T (effect s (LogicalCheckpoint p)).state.channel (deed_in s (LogicalCheckpoint p) ∷ past) (mark_now p h)
  unfolding effect quietly logical_checkpoint with_tag with_progress deed_by fields_of number since any this_round
      marker_sent closed_in turned behind channel_by
  mark_stands p lp free c lc =
      k c lc ∙ rw (under_way_marked T t h c p (no_mark (mark_of s st h inv past i p lp) free))

  -- a marker sent: its channel is not closed yet
  pub marker_stands : (d : ℕ) → MaySendMarker s d
      → Stands T (effect s (SendMarker d)).state.channel (deed_in s (SendMarker d) ∷ past) h
  unfolding effect quietly record_sent set_entries with_channel with_progress deed_by fields_of number since any
      this_round marker_sent closed_in turned behind channel_by
  marker_stands d may =
      changed d (s.channel d ++ (Marker ∷ []))
      (ap (λ (l : List Entry). l ++ (Marker ∷ [])) before
      ∙ sym (marker_last (under_way T t h d))
      ∙ rw (eq-eqb d d refl, ap (λ (f : ℕ → Bool). f d) (sym i.closed) ∙ unclosed (test (s.progress.closed d))))
      (λ c n lc. k c lc ∙ rw (ne_eqb d c n))
    where
      unsent : marker_sent d past ≡ false
      unsent = ap (λ (f : ℕ → Bool). f d) (sym i.sent) ∙ may.unsent

      unclosed : Tested (s.progress.closed d) → s.progress.closed d ≡ false
      unclosed (holds e) =
          let balanced = (channel_in inv (is_logical_lem s.round.phase may.phase) d may.planned).round.balanced in
          true_is_not_false (balanced.shut e).2 may.unsent
      unclosed (fails e) = e

      before : s.channel d ≡ under_way T t h d
      before = k d may.planned ∙ rw unsent

  -- a receive may mark the receiver first, which changes nothing either
  marked_same : (c p : ℕ) → under_way T t (mark_unmarked (h.mark p) p h) c ≡ under_way T t h c
  unfolding mark_unmarked
  marked_same c p = go (h.mark p) refl
    where
      go : (m : Option ℕ) → h.mark p ≡ m → under_way T t (mark_unmarked m p h) c ≡ under_way T t h c
      go none e = under_way_marked T t h c p e
      go (some m) e = refl

  abbrev first : ℕ → History
  first d = cond (sent_after_mark T d h) (mark_unmarked (h.mark (receiver T d)) (receiver T d) h) h

  first_same : (c d : ℕ) → under_way T t (first d) c ≡ under_way T t h c
  first_same c d =
      either (λ (g : History). under_way T t g c ≡ under_way T t h c) (sent_after_mark T d h) _ _
      (marked_same c (receiver T d)) refl

  pub message_stands : (d b : ℕ) (u : Bool) (es : List Entry) → d < T.channels → s.channel d ≡ Message b u ∷ es
      → (made : ℕ)
      → Stands T (upd s.channel d es) (deed_by (fields_of (records.Call (Receive d))) (hears.body b) made ∷ past)
      (on_message T d b h)
  unfolding on_message deed_by fields_of number since any this_round marker_sent closed_in turned behind channel_by
  message_stands d b u es ld is made =
      changed d es
      (sym (among_first (holds_marker d past) (behind d past) (under_way T t h d) es b u (sym (k d ld) ∙ is))
      ∙ ap (here d) (ap (drop 1) (sym (first_same d d)) ∙ sym (under_way_received T t (first d) d b)))
      (λ c n lc. k c lc
      ∙ ap (here c)
      (sym (first_same c d)
      ∙ sym (under_way_elsewhere T t (first d) c (receiver T d) (received_on d b) (receive_is_no_send c d b)
      (received_elsewhere c d b n))))

  pub closing_stands : (d : ℕ) (es : List Entry) → d < T.channels → s.channel d ≡ Marker ∷ es → (made : ℕ)
      → Stands T (upd s.channel d es) (deed_by (fields_of (records.Call (Receive d))) hears.marker made ∷ past)
      (mark_unmarked (h.mark (receiver T d)) (receiver T d) h)
  unfolding deed_by fields_of number since any this_round marker_sent closed_in turned behind channel_by
  closing_stands d es ld is made =
      changed d es
      (sym (among_received (holds_marker d past) (behind d past) (under_way T t h d) es
      (under_way_markerless T t h d) (sym (k d ld) ∙ is))
      ∙ sym (marked_same d (receiver T d))
      ∙ rw (eq-eqb d d refl, and_false (marker_sent d past)))
      (λ c n lc. k c lc ∙ rw (ne_eqb d c n, marked_same c (receiver T d)))
