-- A commit keeps the invariant: the marks of the round are the new finished line, and all have the new tag. Without
-- power nothing is written.
use Prim.Native.Nat.{ℕ, zero, suc, ◌+◌, ◌<◌, ◌≤◌}
use mathlib.Core.Path.{◌≡◌, refl, sym, ap, ◌∙◌}
use mathlib.Core.Bool.{Bool, true, false, not}
use mathlib.Core.List.{List, ◌++◌}
use mathlib.Core.Option.{Option}
use lib.ListN.{take}
use native.Mathlib.Omega.{arith}
use Rattle.model.specs.declared.Phase.TheVariants.{Logical}
use Rattle.model.specs.declared.Step.TheVariants.{Commit}
use Rattle.model.specs.Topology.{is_late}
use Rattle.model.specs.Layout.{message_log, channel_log}
use Rattle.model.specs.State.{GlobalState}
use Rattle.model.specs.Change.{end_round, with_progress, with_round}
use Rattle.model.specs.Write.{write_all, commit_writes}
use Rattle.model.specs.Step.{effect, next_line}
use Rattle.model.specs.History.{Event, Direction, History, sent, received, bodies_on, mark_or, on_commit, on_step}
use Rattle.model.specs.History.{on_accepted}
use Rattle.model.proofs.laws.Tests.{true_is_not_false, Tested, holds, fails, test}
use Rattle.model.proofs.laws.Passing.{MayCommit}
use Rattle.model.proofs.laws.SoundLaws.{Fits}
use Rattle.model.proofs.laws.HistoryLaws.{word_of, before, Marked, unmarked, marked}
use Rattle.model.proofs.store.Sizes.{sized_after}
use Rattle.model.proofs.store.Slots.{committed, committed_log, committed_process}
use Rattle.model.proofs.line.ChannelState.{closed_channel}
use Rattle.model.proofs.line.Counted.{counted_closed}
use Rattle.model.proofs.line.Values.{slot_of, slot_by, held_of, held_by, book_of, seen_of, process_at, channel_at}
use Rattle.model.proofs.line.Invariant.{tagged, late_unsaved, physical_now, EndsPlanned, Inv, Keeps, KeepsBy}
use Rattle.model.proofs.line.Invariant.{KeepsLostBy}
use Rattle.model.proofs.line.Frames.{slot_same, held_same, slot_by_lem, held_by_lem}
use Rattle.model.proofs.line.Phases.{is_logical_lem, process_in, channel_in}

-- a mark of the round, in a line
mark_within : {n : ℕ} {b : Bool} {m : Option ℕ} (place : ℕ) → Marked n b m → b ≡ true → mark_or m place ≤ n
unfolding mark_or
mark_within place unmarked e = true_is_not_false e refl
mark_within place (marked h) e = h

mark_line : {n : ℕ} {b : Bool} {m : Option ℕ} (place : ℕ) (es : List Event) → Marked n b m → b ≡ true
    → before m es ≡ take (mark_or m place) es
unfolding mark_or before
mark_line place es unmarked e = true_is_not_false e refl
mark_line place es (marked h) e = refl

module _ (s : GlobalState) (st : List ℕ) (h : History) (ends : EndsPlanned s.topology) (may : MayCommit s)
    (fits : Fits s.topology s.counts) (i : Inv s st h) where
  abbrev n : ℕ
  n = s.round.line + 1

  abbrev after : List ℕ
  after = write_all st (commit_writes n)

  phase : s.round.phase ≡ Logical
  phase = is_logical_lem s.round.phase may.phase

  -- the pending slot, as it now stands for itself
  slot_committed : (p : ℕ) → p < s.topology.processes → slot_of after n p ≡ slot_by st n (s.counts.messages p) p
  unfolding slot_by
  slot_committed p l =
      let same = committed_process s.topology st i.sized n n p l _ (fits (message_log p) l) in
      slot_by_lem after n p (s.counts.messages p) ((process_in i phase p l).round.counted ∙ sym same.log.count)
      ∙ slot_same n p (s.counts.messages p) same

  -- every late process has its physical checkpoint
  all_saved : (p : ℕ) → p < s.topology.processes → late_unsaved (process_at s st h p) ≡ false
  all_saved p l = go (test (is_late s.topology p))
    where
      go : Tested (is_late s.topology p) → late_unsaved (process_at s st h p) ≡ false
      go (holds e) = rw (e, may.saved p l e)
      go (fails e) = rw e

  -- every channel is closed, so that none has a count ahead in the store
  same_count : (c : ℕ) → c < s.topology.channels
      → (channel_at s st h c).count ≡ (channel_at s st h c).pending.count
  same_count c l =
      let v = (channel_in i phase c l).round in counted_closed (may.channels c l) v.balanced v.counted

  held_committed : (c : ℕ) → c < s.topology.channels → held_of after n c ≡ held_by st n (s.counts.channels c) c
  unfolding held_by
  held_committed c l =
      let same = committed_log s.topology st i.sized n n (channel_log c) l _ (fits (channel_log c) l) in
      held_by_lem after n c (s.counts.channels c) (same_count c l ∙ sym same.count)
      ∙ held_same n c (s.counts.channels c) same

  -- what stood before the marks stands up to the line
  at_line : (p : ℕ) → p < s.topology.processes
      → before (book_of h p).mark (book_of h p).events ≡ take (book_of (on_commit h) p).place (book_of h p).events
  unfolding book_of on_commit
  at_line p l = mark_line (h.line p) (h.events p) (process_in i phase p l).round.mark (may.processes p l)

  seen_line : (d : Direction) (c p : ℕ) → p < s.topology.processes
      → (seen_of d c (book_of h p)).mark ≡ (seen_of d c (book_of (on_commit h) p)).line
  unfolding seen_of book_of on_commit
  seen_line d c p l = ap (bodies_on d c) (at_line p l)

  lasts : KeepsBy s st h Commit (effect s Commit)
  unfolding effect next_line end_round with_progress with_round on_step on_accepted book_of seen_of on_commit tagged
      physical_now
  lasts =
      record {
        sized = sized_after i.sized (commit_writes n);
        stored = committed s.topology st i.sized n;
        tag = not i.tag;
        processes = λ p l.
            let v = process_in i phase p l in
            rw (slot_committed p l)
            (record {
              now = v.now;
              within = mark_within (h.line p) v.round.mark (may.processes p l);
              finished = rw (all_saved p l) at v.round.saved ∙ ap word_of (at_line p l);
              fits = rw (← v.round.counted) (fits (message_log p) l);
              round = record { tag = v.round.tag ∙ ap (tagged i.tag) (may.processes p l); mark = refl };
            });
        channels = λ c l.
            let v = channel_in i phase c l in
            let (plain, balance) = closed_channel (may.channels c l) v.round.balanced in
            rw (held_committed c l)
            (record {
              now = v.now;
              finished =
                  sym (seen_line sent c _ (ends c l).0) ∙ balance
                  ∙ ap (λ (x : List ℕ). x ++ (channel_at s st h c).pending.bodies)
                  (seen_line received c _ (ends c l).1);
              fits = rw (← same_count c l) (fits (channel_log c) l);
              round = plain;
            });
      }

  lost : KeepsLostBy s st h (effect s Commit)
  unfolding effect commit_writes write_all
  lost zero l = i
  lost (suc b) l = absurd (omega arith)

  pub commit_kept : Keeps s st h Commit
  commit_kept = record { lasts = lasts; lost = lost }
