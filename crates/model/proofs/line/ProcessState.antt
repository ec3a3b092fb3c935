-- One process: what each transition makes of its part of the invariant, over plain values.
use Prim.Native.Nat.{ℕ, ◌+◌, ◌<◌}
use mathlib.Core.Path.{◌≡◌, refl, sym, ap, ◌∙◌}
use mathlib.Core.Bool.{Bool, true, false, not}
use mathlib.Core.List.{[], ◌∷◌, ◌++◌}
use mathlib.Core.Option.{none}
use lib.ListN.{length}
use native.Mathlib.Omega.{arith}
use Rattle.model.specs.declared.Phase.{Phase}
use Rattle.model.specs.declared.Phase.TheVariants.{Idle, Physical, Logical}
use Rattle.model.specs.declared.Receipt.{Receipt}
use Rattle.model.specs.Word.{receipt, enter, replay, leave, undo_by}
use Rattle.model.specs.Form as form
use Rattle.model.proofs.laws.Tests.{true_is_not_false}
use Rattle.model.proofs.laws.WordLaws.{modulus, replay_snoc, undo_snoc, leave_enter}
use Rattle.model.proofs.laws.HistoryLaws.{word_of, before, Marked, marked, before_end, sent_on, received_on}
use Rattle.model.proofs.laws.HistoryLaws.{word_sent, word_received, history_bounded}
use Rattle.model.proofs.line.Values.{Book, Slot, Process}
use Rattle.model.proofs.line.Invariant.{tagged, late_unsaved, physical_now, ProcessIn, ProcessHolds}
use Rattle.model.proofs.line.Books.{longer, marked_book, Whole, whole, no_mark, one_longer, marked_longer}
use Rattle.model.proofs.line.Books.{before_longer, line_longer, mark_longer}

-- a process with another book, and with another pending slot
abbrev pub with_book : Book → Process → Process
with_book k v =
    record {
      late = v.late;
      word = v.word;
      tag = v.tag;
      logical = v.logical;
      saved = v.saved;
      count = v.count;
      book = k;
      finished = v.finished;
      pending = v.pending;
    }

-- after a message with this body on channel c: it enters the word. The message log has `count` entries then, and the
-- pending slot is `slot`.
abbrev pub receiving : ℕ → ℕ → ℕ → Slot → Process → Process
receiving c b count slot v =
    record {
      late = v.late;
      word = enter v.word (receipt c b);
      tag = v.tag;
      logical = v.logical;
      saved = v.saved;
      count = count;
      book = longer (received_on c b) v.book;
      finished = v.finished;
      pending = slot;
    }

-- the pending slot with one more entry in the message log
abbrev pub logged_slot : Receipt → Process → Slot
logged_slot r v =
    record { physical = v.pending.physical; receipts = v.pending.receipts ++ (r ∷ []); count = v.count + 1 }

-- after the logical checkpoint: the mark is the end of the history
abbrev pub at_logical : Process → Process
at_logical v =
    record {
      late = v.late;
      word = v.word;
      tag = not v.tag;
      logical = true;
      saved = v.saved;
      count = v.count;
      book = marked_book v.book;
      finished = v.finished;
      pending = v.pending;
    }

-- after the physical checkpoint of a late one: the pending slot has its word
abbrev pub at_physical : Process → Process
at_physical v =
    record {
      late = v.late;
      word = v.word;
      tag = v.tag;
      logical = v.logical;
      saved = true;
      count = v.count;
      book = v.book;
      finished = v.finished;
      pending =
          record { physical = v.word; receipts = v.pending.receipts; count = v.pending.count };
    }

-- its tag, by the phase
abbrev pub tag_in : Bool → Phase → Bool → Bool
tag_in t Idle logical = t
tag_in t (Physical next) logical = t
tag_in t Logical logical = tagged t logical

module _ {t : Bool} {p : ℕ} {v : Process} where
  pub tag_is : (ph : Phase) → ProcessHolds t ph p v → v.tag ≡ tag_in t ph v.logical
  tag_is Idle i = i.round.tag
  tag_is (Physical next) i = i.round.plain.tag
  tag_is Logical i = i.round.tag

  -- a send: its word stays
  pub process_sent : (ph : Phase) (c b : ℕ) → ProcessHolds t ph p v
      → ProcessHolds t ph p (with_book (longer (sent_on c b) v.book) v)
  unfolding physical_now
  process_sent ph c b i =
      record {
        now = i.now ∙ sym (word_sent v.book.events c b);
        within = omega (arith, i.within, one_longer v.book.events (sent_on c b));
        finished = i.finished ∙ sym (line_longer word_of v.book (sent_on c b) (whole ph i));
        fits = i.fits;
        round = round ph (whole ph i) i.round;
      }
    where
      round : (ph : Phase) → Whole v.book → ProcessIn t ph p v
          → ProcessIn t ph p (with_book (longer (sent_on c b) v.book) v)
      round Idle w r = record { tag = r.tag; mark = r.mark }
      round (Physical next) w r =
          record {
            plain = record { tag = r.plain.tag; mark = r.plain.mark };
            saved = r.saved;
            waiting = r.waiting;
            unlogged = r.unlogged;
            counted = r.counted;
          }
      round Logical w r =
          record {
            tag = r.tag;
            mark = marked_longer _ (one_longer v.book.events (sent_on c b)) r.mark;
            saved = r.saved ∙ sym (mark_longer word_of v.book (sent_on c b) w (word_sent v.book.events c b));
            untouched = r.untouched;
            counted = r.counted;
          }

  -- a message received; what becomes of the round is shown apart
  process_received : (ph : Phase) (c b count : ℕ) (slot : Slot) → ProcessHolds t ph p v
      → ProcessIn t ph p (receiving c b count slot v) → ProcessHolds t ph p (receiving c b count slot v)
  process_received ph c b count slot i round =
      record {
        now = ap (λ (w : ℕ). enter w (receipt c b)) i.now ∙ sym (word_received v.book.events c b);
        within = omega (arith, i.within, one_longer v.book.events (received_on c b));
        finished = i.finished ∙ sym (line_longer word_of v.book (received_on c b) (whole ph i));
        fits = i.fits;
        round = round;
      }

  pub received_idle : (c b : ℕ) → ProcessHolds t Idle p v
      → ProcessHolds t Idle p (receiving c b v.count v.pending v)
  received_idle c b i = process_received Idle c b _ _ i (record { tag = i.round.tag; mark = i.round.mark })

  -- in the physical phase: one that isn't saved, and one that is
  pub received_waiting : (next c b : ℕ) → (v.late ≡ false → p < next → ⊥) → ProcessHolds t (Physical next) p v
      → ProcessHolds t (Physical next) p (receiving c b v.count v.pending v)
  received_waiting next c b unsaved i =
      process_received (Physical next) c b _ _ i
      (record {
        plain = record { tag = i.round.plain.tag; mark = i.round.plain.mark };
        saved = λ e k. absurd (unsaved e k);
        waiting = i.round.waiting;
        unlogged = i.round.unlogged;
        counted = i.round.counted;
      })

  pub received_saved : (next c b : ℕ) → v.late ≡ false → p < next → ProcessHolds t (Physical next) p v
      → ProcessHolds t (Physical next) p (receiving c b (v.count + 1) (logged_slot (receipt c b) v) v)
  received_saved next c b early l i =
      process_received (Physical next) c b _ _ i
      (record {
        plain = record { tag = i.round.plain.tag; mark = i.round.plain.mark };
        saved = λ e k.
            replay_snoc enter v.pending.physical v.pending.receipts (receipt c b)
            ∙ ap (λ (w : ℕ). enter w (receipt c b)) (i.round.saved e k);
        waiting = λ k. absurd (omega arith);
        unlogged = λ e. true_is_not_false e early;
        counted = refl;
      })

  -- in the logical phase, before its logical checkpoint: an early one, which logs it, and a late one, which doesn't
  module _ (c b : ℕ) (e : v.logical ≡ false) (i : ProcessHolds t Logical p v) where
    no_mark_yet : v.book.mark ≡ none
    no_mark_yet = no_mark i.round.mark e

    still_marked : Marked (length (v.book.events ++ (received_on c b ∷ []))) v.logical v.book.mark
    still_marked = marked_longer _ (one_longer v.book.events (received_on c b)) i.round.mark

    pub received_before : v.late ≡ false
        → ProcessHolds t Logical p (receiving c b (v.count + 1) (logged_slot (receipt c b) v) v)
    unfolding before physical_now form.restore form.restore_by
    received_before early =
        let as-now : replay v.pending.physical v.pending.receipts ≡ word_of v.book.events =
        rw (no_mark_yet, early) at i.round.saved in
        process_received Logical c b _ _ i
        (record {
          tag = i.round.tag;
          mark = still_marked;
          saved =
              rw (no_mark_yet, early)
              (replay_snoc enter v.pending.physical v.pending.receipts (receipt c b)
              ∙ ap (λ (w : ℕ). enter w (receipt c b)) as-now ∙ sym (word_received v.book.events c b));
          untouched = λ late k. true_is_not_false late early;
          counted = refl;
        })

    pub received_unlogged : v.late ≡ true → ProcessHolds t Logical p (receiving c b v.count v.pending v)
    unfolding before physical_now form.restore form.restore_by undo_by
    received_unlogged late =
        let (empty, unsaved) = i.round.untouched late e in
        process_received Logical c b _ _ i
        (record {
          tag = i.round.tag;
          mark = still_marked;
          saved =
              rw (no_mark_yet, late, unsaved, empty)
              (ap (λ (w : ℕ). enter w (receipt c b)) i.now ∙ sym (word_received v.book.events c b));
          untouched = i.round.untouched;
          counted = i.round.counted;
        })

  -- after it: one with a physical checkpoint, and one without, which logs the anti-message
  module _ (c b : ℕ) (e : v.logical ≡ true) (i : ProcessHolds t Logical p v) where
    same_before : word_of (before v.book.mark v.book.events)
        ≡ word_of (before v.book.mark (v.book.events ++ (received_on c b ∷ [])))
    same_before = ap word_of (sym (before_longer v.book.events (received_on c b) refl i.round.mark e))

    pub received_after : late_unsaved v ≡ false → ProcessHolds t Logical p (receiving c b v.count v.pending v)
    unfolding physical_now
    received_after Has-one =
        process_received Logical c b _ _ i
        (record {
          tag = i.round.tag;
          mark = marked_longer _ (one_longer v.book.events (received_on c b)) i.round.mark;
          saved = rw Has-one (rw Has-one at i.round.saved ∙ same_before);
          untouched = λ late k. true_is_not_false e k;
          counted = i.round.counted;
        })

    pub received_anti : v.late ≡ true → v.saved ≡ false
        → ProcessHolds t Logical p (receiving c b (v.count + 1) (logged_slot (receipt c b) v) v)
    unfolding physical_now form.restore form.restore_by
    received_anti late unsaved =
        let r : Receipt = receipt c b in
        let bounded : v.word < modulus = rw i.now (history_bounded v.book.events) in
        let as-now : undo_by leave v.word v.pending.receipts ≡ word_of (before v.book.mark v.book.events) =
        rw (late, unsaved) at i.round.saved in
        process_received Logical c b _ _ i
        (record {
          tag = i.round.tag;
          mark = marked_longer _ (one_longer v.book.events (received_on c b)) i.round.mark;
          saved =
              rw (late, unsaved)
              (undo_snoc leave (enter v.word r) v.pending.receipts r
              ∙ ap (λ (w : ℕ). undo_by leave w v.pending.receipts) (leave_enter v.word r bounded)
              ∙ as-now ∙ same_before);
          untouched = λ l k. true_is_not_false e k;
          counted = refl;
        })

  -- the logical checkpoint, and the physical checkpoint of a late one
  pub process_logical : v.logical ≡ false → ProcessHolds t Logical p v → ProcessHolds t Logical p (at_logical v)
  unfolding tagged before physical_now
  process_logical e i =
      record {
        now = i.now;
        within = i.within;
        finished = i.finished;
        fits = i.fits;
        round =
            record {
              tag = ap not (i.round.tag ∙ ap (tagged t) e);
              mark = marked {m = length v.book.events} (omega arith);
              saved =
                  i.round.saved ∙ rw (no_mark i.round.mark e) (ap word_of (sym (before_end v.book.events)));
              untouched = λ late k. true_is_not_false refl k;
              counted = i.round.counted;
            };
      }

  pub process_physical : v.late ≡ true → v.logical ≡ true → v.saved ≡ false → ProcessHolds t Logical p v
      → ProcessHolds t Logical p (at_physical v)
  unfolding physical_now
  process_physical late e unsaved i =
      record {
        now = i.now;
        within = i.within;
        finished = i.finished;
        fits = i.fits;
        round =
            record {
              tag = i.round.tag;
              mark = i.round.mark;
              saved = rw late (rw (late, unsaved) at i.round.saved);
              untouched = λ l k. true_is_not_false e k;
              counted = i.round.counted;
            };
      }
