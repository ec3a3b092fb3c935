-- The physical phase goes on, from process q on: the late processes up to the next early one are passed over. Where no
-- early one is left the logical phase starts, with only old messages on the channels. This is what a begin and a
-- physical checkpoint of an early process have in common.
use Prim.Native.Nat.{ℕ, ◌+◌, ◌<◌, ◌≤◌}
use mathlib.Core.Path.{◌≡◌, refl, sym, ap, subst, ◌∙◌}
use mathlib.Core.Bool.{Bool, true, false}
use mathlib.Core.List.{List, [], ◌++◌}
use mathlib.Core.Option.{Option}
use lib.Dec.{ltb}
use borrow.Author.Tests.{ltb-true, ltb-false}
use native.Mathlib.Omega.{arith}
use Rattle.model.specs.declared.Phase.TheVariants.{Physical, Logical}
use Rattle.model.specs.declared.Entry.{Entry}
use Rattle.model.specs.Notation.{tabulate}
use Rattle.model.specs.Word.{undo_by}
use Rattle.model.specs.Topology.{is_late}
use Rattle.model.specs.Channel.{bodies, messages}
use Rattle.model.specs.Layout.{entries_from}
use Rattle.model.specs.State.{GlobalState, no_progress}
use Rattle.model.specs.Change.{in_phase, with_round, with_progress}
use Rattle.model.specs.Step.{physical_at, physical_from}
use Rattle.model.specs.History.{History, Direction, sent, received}
use Rattle.model.specs.Form as form
use Rattle.model.proofs.laws.Tests.{true_is_not_false, Tested, holds, fails, test}
use Rattle.model.proofs.laws.TopologyLaws.{FirstEarly, at, none_left, first_early_lem}
use Rattle.model.proofs.laws.HistoryLaws.{word_of, before, unmarked}
use Rattle.model.proofs.line.ChannelState.{Shape, Balanced, all_old}
use Rattle.model.proofs.line.Counted.{exact}
use Rattle.model.proofs.line.Values.{slot_by, held_by, book_of, seen_of, process_at}
use Rattle.model.proofs.line.Invariant.{tagged, physical_now, EndsPlanned, LogicalProcess, Inv}
use Rattle.model.proofs.line.Phases.{process_in, channel_in}

-- a channel at the start of the logical phase
only_old : {t : Bool} {es : List Entry} {log out in' : List ℕ} → es ≡ messages t (bodies es) → log ≡ []
    → out ≡ in' ++ bodies es → Balanced t false false false false es log out in'
only_old {t} {es} {log} {out} {in'} plain empty balance =
    record {
      before = bodies es;
      marked = false;
      shape = subst (λ (x : List Entry). Shape t (bodies es) false x) (sym plain) (all_old t (bodies es));
      flag = refl;
      quiet = λ e. (refl, plain);
      shut = λ e. true_is_not_false e refl;
      unlogged = λ e. empty;
      balance = balance ∙ ap (λ (x : List ℕ). in' ++ (x ++ bodies es)) (sym empty);
    }

module _ (s : GlobalState) (st : List ℕ) (h : History) (q : ℕ) (ends : EndsPlanned s.topology)
    (i : Inv (in_phase (Physical q) s) st h) where
  abbrev n : ℕ
  n = s.round.line + 1

  abbrev here : GlobalState
  here = in_phase (Physical q) s

  -- there is a next one, and those between are late
  goes_on : (p : ℕ) → q ≤ p → ((x : ℕ) → q ≤ x → x < p → is_late s.topology x ≡ true)
      → Inv (in_phase (Physical p) s) st h
  unfolding in_phase with_round
  goes_on p l late =
      record {
        sized = i.sized;
        stored = i.stored;
        tag = i.tag;
        processes = λ x k.
            let v = process_in i refl x k in
            record {
              now = v.now;
              within = v.within;
              finished = v.finished;
              fits = v.fits;
              round =
                  record {
                    plain = record { tag = v.round.plain.tag; mark = v.round.plain.mark };
                    saved = λ e b. v.round.saved e (before_q x e b (test (ltb x q)));
                    waiting = λ b. v.round.waiting (omega arith);
                    unlogged = v.round.unlogged;
                    counted = v.round.counted;
                  };
            };
        channels = λ c k.
            let v = channel_in i refl c k in
            record {
              now = v.now;
              finished = v.finished;
              fits = v.fits;
              round = record { plain = v.round.plain; empty = v.round.empty; counted = v.round.counted };
            };
      }
    where
      before_q : (x : ℕ) → is_late s.topology x ≡ false → x < p → Tested (ltb x q) → x < q
      before_q x e b (holds k) = ltb-true x q k
      before_q x e b (fails k) = true_is_not_false (late x (ltb-false x q k) b) e

  -- no process has a mark, so all of a history is before it
  all_before : (d : Direction) (c p : ℕ) → p < s.topology.processes
      → (seen_of d c (book_of h p)).all ≡ (seen_of d c (book_of h p)).mark
  unfolding seen_of book_of before in_phase with_round
  all_before d c p l = rw (process_in i refl p l).round.plain.mark

  whole_history : (p : ℕ) → p < s.topology.processes
      → word_of (book_of h p).events ≡ word_of (before (book_of h p).mark (book_of h p).events)
  unfolding before in_phase with_round
  whole_history p l = rw (process_in i refl p l).round.plain.mark

  nothing_logged : (c : ℕ) → c < s.topology.channels → (held_by st n (s.counts.channels c) c).bodies ≡ []
  unfolding held_by form.bodies_by form.entries_by entries_from tabulate in_phase with_round
  nothing_logged c l = rw (channel_in i refl c l).round.empty

  -- none is left: the logical phase starts
  module _ (late : (x : ℕ) → q ≤ x → x < s.topology.processes → is_late s.topology x ≡ true) where
    abbrev logical : GlobalState
    logical = in_phase Logical (with_progress no_progress s)

    no_anti : (p : ℕ) → p < s.topology.processes → is_late s.topology p ≡ true
        → (slot_by st n (s.counts.messages p) p).receipts ≡ []
    unfolding slot_by form.receipts_by form.entries_by entries_from tabulate in_phase with_round
    no_anti p l e = rw ((process_in i refl p l).round.unlogged e)

    process : (p : ℕ) → p < s.topology.processes → Tested (is_late s.topology p)
        → LogicalProcess i.tag (process_at logical st h p)
    unfolding in_phase with_round with_progress no_progress tagged before physical_now form.restore form.restore_by
        undo_by
    process p l (holds e) =
        let v = process_in i refl p l in
        record {
          tag = v.round.plain.tag;
          mark = rw v.round.plain.mark unmarked;
          saved = rw (e, no_anti p l e) (v.now ∙ whole_history p l);
          untouched = λ _ k. (no_anti p l e, refl);
          counted = v.round.counted;
        }
    process p l (fails e) =
        let v = process_in i refl p l in
        record {
          tag = v.round.plain.tag;
          mark = rw v.round.plain.mark unmarked;
          saved = rw e (v.round.saved e (before_q (test (ltb p q))) ∙ v.now ∙ whole_history p l);
          untouched = λ k _. true_is_not_false k e;
          counted = v.round.counted;
        }
      where
        before_q : Tested (ltb p q) → p < q
        before_q (holds k) = ltb-true p q k
        before_q (fails k) = true_is_not_false (late p (ltb-false p q k) l) e

    starts : Inv logical st h
    unfolding in_phase with_round with_progress no_progress
    starts =
        record {
          sized = i.sized;
          stored = i.stored;
          tag = i.tag;
          processes = λ p l.
              let v = process_in i refl p l in
              record {
                now = v.now;
                within = v.within;
                finished = v.finished;
                fits = v.fits;
                round = process p l (test (is_late s.topology p));
              };
          channels = λ c l.
              let v = channel_in i refl c l in
              record {
                now = v.now;
                finished = v.finished;
                fits = v.fits;
                round =
                    record {
                      balanced =
                          only_old v.round.plain (nothing_logged c l)
                          (sym (all_before sent c _ (ends c l).0) ∙ v.now
                          ∙ ap (λ (x : List ℕ). x ++ bodies (s.channel c)) (all_before received c _ (ends c l).1));
                      counted = exact v.round.counted;
                    };
              };
        }

  -- at the next early process, or the logical phase starts
  pub physical_from_lem : Inv (physical_from q s) st h
  unfolding physical_from physical_at is_late
  physical_from_lem = go (first_early_lem s.topology.processes s.topology.late q)
    where
      go : {o : Option ℕ} → FirstEarly s.topology.processes s.topology.late q o → Inv (physical_at o s) st h
      go (at {p} l b e late) = goes_on p b late
      go (none_left late) = starts late
