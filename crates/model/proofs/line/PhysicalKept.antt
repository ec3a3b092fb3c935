-- A physical checkpoint keeps the invariant: the process is saved as it stands. An early one is saved so in the
-- physical phase, which goes on then; a late one after its logical checkpoint, with the anti-messages that lead back to
-- it in its log. Without power nothing is written.
use Prim.Native.Nat.{ℕ, zero, suc, ◌+◌, ◌<◌}
use mathlib.Core.Path.{◌≡◌, ◌∙◌}
use mathlib.Core.Bool.{true, false}
use mathlib.Core.List.{List}
use native.Mathlib.Omega.{arith}
use Rattle.model.specs.declared.Phase.TheVariants.{Physical, Logical}
use Rattle.model.specs.declared.Step.TheVariants.{PhysicalCheckpoint}
use Rattle.model.specs.Notation.{tabulate}
use Rattle.model.specs.Word.{replay_by, replay}
use Rattle.model.specs.Topology.{is_late}
use Rattle.model.specs.Layout.{message_log, channel_log, entries_from}
use Rattle.model.specs.State.{GlobalState}
use Rattle.model.specs.Change.{in_phase, with_round, with_progress, with_saved, record_saved}
use Rattle.model.specs.Write.{Write, write_all, physical_writes}
use Rattle.model.specs.Step.{effect, next_line, after_physical, physical_from}
use Rattle.model.specs.History.{History, on_step, on_accepted}
use Rattle.model.specs.Form as form
use Rattle.model.proofs.laws.Functions.{by_index, upd_same, upd_other}
use Rattle.model.proofs.laws.Passing.{MayCheckpointPhysically, Turn, early, late}
use Rattle.model.proofs.laws.SoundLaws.{Fits}
use Rattle.model.proofs.store.Slots.{physical_in, physical_written, physical_log, physical_other}
use Rattle.model.proofs.line.Values.{Slot, slot_by, held_by, process_at}
use Rattle.model.proofs.line.Invariant.{EndsPlanned, ProcessHolds, Inv, Keeps, KeepsBy, KeepsLostBy}
use Rattle.model.proofs.line.Frames.{slot_same, held_same, Spared, spared_all}
use Rattle.model.proofs.line.ProcessState.{process_physical}
use Rattle.model.proofs.line.Phases.{is_next_lem, is_logical_lem, process_in, channel_in}
use Rattle.model.proofs.line.NextPhase.{physical_from_lem}

module _ (s : GlobalState) (st : List ℕ) (h : History) (p : ℕ) (ends : EndsPlanned s.topology)
    (planned : p < s.topology.processes) (fits : Fits s.topology s.counts) (i : Inv s st h) where
  abbrev n : ℕ
  n = s.round.line + 1

  abbrev writes : List Write
  writes = physical_writes n p (s.word p)

  abbrev after : List ℕ
  after = write_all st writes

  kept : Spared s st after
  kept = spared_all i writes (physical_in s.topology st i.sized n p (s.word p) planned)

  -- no log is touched, nor its count
  same_held : (c : ℕ) → c < s.topology.channels
      → held_by after n (s.counts.channels c) c ≡ held_by st n (s.counts.channels c) c
  same_held c l =
      held_same n c (s.counts.channels c)
      (physical_log s.topology st i.sized n p (s.word p) planned (channel_log c) l _
      (fits (channel_log c) l))

  -- this process has its word in the slot, and the others have there what they had
  abbrev written : Slot
  written =
      let before : Slot = slot_by st n (s.counts.messages p) p in
      record { physical = s.word p; receipts = before.receipts; count = before.count }

  own_slot : slot_by after n (s.counts.messages p) p ≡ written
  unfolding slot_by form.receipts_by
  own_slot =
      let log = physical_log s.topology st i.sized n p (s.word p) planned (message_log p) planned _
      (fits (message_log p) planned) in
      rw (physical_written s.topology st i.sized n p (s.word p) planned, log.entries, log.count)

  other_slot : (q : ℕ) → q < s.topology.processes → (p ≡ q → ⊥)
      → slot_by after n (s.counts.messages q) q ≡ slot_by st n (s.counts.messages q) q
  other_slot q l o =
      slot_same n q (s.counts.messages q)
      (physical_other s.topology st i.sized n p (s.word p) planned q l o _ (fits (message_log q) l))

  -- the process is the next: those before it and itself are saved as they stand
  module _ (phase : s.round.phase ≡ Physical p) where
    own_saved : replay written.physical written.receipts ≡ s.word p
    unfolding slot_by form.receipts_by form.entries_by entries_from tabulate replay_by
    own_saved = rw ((process_in i phase p planned).round.waiting (omega arith))

    process : (q : ℕ) → q < s.topology.processes
        → ProcessHolds i.tag (Physical (p + 1)) q (process_at (in_phase (Physical (p + 1)) s) after h q)
    unfolding in_phase with_round
    process =
        by_index (λ q. q < s.topology.processes
        → ProcessHolds i.tag (Physical (p + 1)) q (process_at (in_phase (Physical (p + 1)) s) after h q)) p
        (λ l.
        let v = process_in i phase p l in
        rw (kept.slots p l, own_slot)
        (record {
          now = v.now;
          within = v.within;
          finished = v.finished;
          fits = v.fits;
          round =
              record {
                plain = record { tag = v.round.plain.tag; mark = v.round.plain.mark };
                saved = λ e k. own_saved;
                waiting = λ k. absurd (omega arith);
                unlogged = v.round.unlogged;
                counted = v.round.counted;
              };
        }))
        (λ q o l.
        let v = process_in i phase q l in
        rw (kept.slots q l, other_slot q l o)
        (record {
          now = v.now;
          within = v.within;
          finished = v.finished;
          fits = v.fits;
          round =
              record {
                plain = record { tag = v.round.plain.tag; mark = v.round.plain.mark };
                saved = λ e k. v.round.saved e (omega (arith, o));
                waiting = λ k. v.round.waiting (omega arith);
                unlogged = v.round.unlogged;
                counted = v.round.counted;
              };
        }))

    next_after : Inv (in_phase (Physical (p + 1)) s) after h
    unfolding in_phase with_round
    next_after =
        record {
          sized = kept.sized;
          stored = kept.line ∙ i.stored;
          tag = i.tag;
          processes = process;
          channels = λ c l.
              let v = channel_in i phase c l in
              rw (kept.helds c l, same_held c l)
              (record {
                now = v.now;
                finished = v.finished;
                fits = v.fits;
                round = record { plain = v.round.plain; empty = v.round.empty; counted = v.round.counted };
              });
        }

    early_kept : Inv (physical_from (p + 1) s) after h
    early_kept = physical_from_lem s after h (p + 1) ends next_after

  -- a late one, after its logical checkpoint
  module _ (is-late : is_late s.topology p ≡ true) (phase : s.round.phase ≡ Logical)
      (marked : s.progress.logical p ≡ true) (unsaved : s.progress.saved p ≡ false) where
    late_kept : Inv (record_saved p s) after h
    unfolding record_saved with_progress with_saved
    late_kept =
        record {
          sized = kept.sized;
          stored = kept.line ∙ i.stored;
          tag = i.tag;
          processes =
              by_index (λ q. q < s.topology.processes
              → ProcessHolds i.tag s.round.phase q (process_at (record_saved p s) after h q)) p
              (λ l.
              rw (phase, kept.slots p l, own_slot, upd_same s.progress.saved p true)
              (process_physical is-late marked unsaved (process_in i phase p l)))
              (λ q o l.
              rw (kept.slots q l, other_slot q l o, upd_other s.progress.saved p q true o) (i.processes q l));
          channels = λ c l. rw (kept.helds c l, same_held c l) (i.channels c l);
        }

module _ (s : GlobalState) (st : List ℕ) (h : History) (p : ℕ) (ends : EndsPlanned s.topology)
    (may : MayCheckpointPhysically s p) (fits : Fits s.topology s.counts) (i : Inv s st h) where
  lasts : Turn s p → KeepsBy s st h (PhysicalCheckpoint p) (effect s (PhysicalCheckpoint p))
  unfolding effect next_line after_physical on_step on_accepted
  lasts (early e next) =
      rw e (early_kept s st h p ends may.planned fits i (is_next_lem s.round.phase p next))
  lasts (late e phase marked unsaved) =
      rw e (late_kept s st h p ends may.planned fits i e (is_logical_lem s.round.phase phase) marked unsaved)

  lost : KeepsLostBy s st h (effect s (PhysicalCheckpoint p))
  unfolding effect physical_writes write_all
  lost zero l = i
  lost (suc b) l = absurd (omega arith)

  pub physical_kept : Keeps s st h (PhysicalCheckpoint p)
  physical_kept = record { lasts = lasts may.turn; lost = lost }
