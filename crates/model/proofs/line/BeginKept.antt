-- A begin keeps the invariant, also where the power is lost within its writes: they all go into the slot for the next
-- line, of which an idle state says nothing.
use Prim.Native.Nat.{ℕ, ◌+◌}
use mathlib.Core.Path.{◌≡◌, refl, sym, subst, ◌∙◌}
use mathlib.Core.Bool.{true}
use mathlib.Core.List.{List}
use lib.ListN.{take}
use native.Mathlib.Omega.{arith}
use Rattle.model.specs.declared.Phase.{Phase}
use Rattle.model.specs.declared.Phase.TheVariants.{Idle, Physical}
use Rattle.model.specs.declared.Step.TheVariants.{Begin}
use Rattle.model.specs.Phase.{is_idle}
use Rattle.model.specs.Layout.{message_log, channel_log}
use Rattle.model.specs.State.{GlobalState, no_counts}
use Rattle.model.specs.Change.{in_phase, with_round, with_counts}
use Rattle.model.specs.Write.{Write, write_all, clear_writes}
use Rattle.model.specs.Step.{effect, next_line}
use Rattle.model.specs.History.{History, on_step, on_accepted}
use Rattle.model.proofs.store.Slots.{InSlot, clear_in, cleared}
use Rattle.model.proofs.line.Values.{process_at, channel_at, slot_by, held_by}
use Rattle.model.proofs.line.Invariant.{EndsPlanned, ProcessHolds, ChannelHolds, Inv, Keeps, KeepsBy}
use Rattle.model.proofs.line.Invariant.{KeepsLostBy}
use Rattle.model.proofs.line.Frames.{Spared, spared, spared_all}
use Rattle.model.proofs.line.Phases.{is_idle_lem, process_in, channel_in}
use Rattle.model.proofs.line.NextPhase.{physical_from_lem}

module _ (s : GlobalState) (st : List ℕ) (h : History) (ends : EndsPlanned s.topology)
    (may : is_idle s.round.phase ≡ true) (i : Inv s st h) where
  abbrev writes : List Write
  writes = clear_writes s.topology (s.round.line + 1)

  into : InSlot (s.round.line + 1) writes
  into = clear_in s.topology st i.sized (s.round.line + 1)

  phase : s.round.phase ≡ Idle
  phase = is_idle_lem s.round.phase may

  -- the slot's logs are empty, and no process is saved yet
  begun : Inv (in_phase (Physical 0) (with_counts no_counts s)) (write_all st writes) h
  unfolding in_phase with_round with_counts no_counts slot_by held_by
  begun =
      let kept : Spared s st (write_all st writes) = spared_all i writes into in
      let empty = cleared s.topology st i.sized (s.round.line + 1) in
      record {
        sized = kept.sized;
        stored = kept.line ∙ i.stored;
        tag = i.tag;
        processes = λ p l.
            let v = process_in i phase p l in
            rw (kept.slots p l)
            (record {
              now = v.now;
              within = v.within;
              finished = v.finished;
              fits = v.fits;
              round =
                  record {
                    plain = record { tag = v.round.tag; mark = v.round.mark };
                    saved = λ e k. absurd (omega arith);
                    waiting = λ k. refl;
                    unlogged = λ e. refl;
                    counted = sym (empty (message_log p) l);
                  };
            });
        channels = λ c l.
            let v = channel_in i phase c l in
            rw (kept.helds c l)
            (record {
              now = v.now;
              finished = v.finished;
              fits = v.fits;
              round = record { plain = v.round; empty = refl; counted = sym (empty (channel_log c) l) };
            });
      }

  lasts : KeepsBy s st h Begin (effect s Begin)
  unfolding effect next_line with_counts on_step on_accepted
  lasts = physical_from_lem (with_counts no_counts s) _ h 0 ends begun

  -- an idle state says nothing of the pending slot
  lost : KeepsLostBy s st h (effect s Begin)
  unfolding effect next_line
  lost b k =
      let kept : Spared s st (write_all st (take b writes)) = spared i writes into b in
      record {
        sized = kept.sized;
        stored = kept.line ∙ i.stored;
        tag = i.tag;
        processes = λ p l.
            let v = process_in i phase p l in
            subst (λ (ph : Phase). ProcessHolds i.tag ph p (process_at s (write_all st (take b writes)) h p))
            (sym phase)
            (rw (kept.slots p l)
            (record {
              now = v.now;
              within = v.within;
              finished = v.finished;
              fits = v.fits;
              round = record { tag = v.round.tag; mark = v.round.mark };
            }));
        channels = λ c l.
            let v = channel_in i phase c l in
            subst (λ (ph : Phase). ChannelHolds i.tag ph (channel_at s (write_all st (take b writes)) h c)) (sym phase)
            (rw (kept.helds c l)
            (record { now = v.now; finished = v.finished; fits = v.fits; round = v.round }));
      }

  pub begin_kept : Keeps s st h Begin
  begin_kept = record { lasts = lasts; lost = lost }
