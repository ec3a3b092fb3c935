-- A logical checkpoint keeps the invariant: the process is saved as it stands, and its mark is the end of its history.
use Prim.Native.Nat.{ℕ, ◌<◌}
use mathlib.Core.Path.{◌≡◌, refl, sym, subst, ◌∙◌}
use mathlib.Core.Bool.{Bool, true, false, not}
use mathlib.Core.List.{List}
use Rattle.model.specs.declared.Phase.{Phase}
use Rattle.model.specs.declared.Phase.TheVariants.{Logical}
use Rattle.model.specs.Notation.{upd}
use Rattle.model.specs.Topology.{sender, receiver}
use Rattle.model.specs.State.{GlobalState}
use Rattle.model.specs.Change.{logical_checkpoint, with_tag, with_progress, with_logical}
use Rattle.model.specs.History.{History, sent, received, mark_now}
use Rattle.model.proofs.laws.Tests.{true_is_not_false}
use Rattle.model.proofs.laws.Functions.{Indices, same, other, indices, by_index, upd_same, upd_at, upd_other}
use Rattle.model.proofs.line.Values.{Channel, process_at, channel_at}
use Rattle.model.proofs.line.ChannelState.{more_logical}
use Rattle.model.proofs.line.Counted.{counted_logical}
use Rattle.model.proofs.line.Invariant.{ProcessHolds, ChannelHolds, Inv}
use Rattle.model.proofs.line.Books.{no_mark, book_marked, book_marked_other, seen_marked_in}
use Rattle.model.proofs.line.ProcessState.{process_logical}
use Rattle.model.proofs.line.Phases.{process_in, channel_in}

-- one more has its logical checkpoint, so what has not had not before
fewer : (f : ℕ → Bool) (p q : ℕ) → upd f p true q ≡ false → f q ≡ false
fewer f p q e = go (indices p q)
  where
    go : Indices p q → f q ≡ false
    go (same i) = true_is_not_false (upd_at f p q true i) e
    go (other n) = sym (upd_other f p q true n) ∙ e

-- a channel whose ends have their logical checkpoint, or not
abbrev flagged : Bool → Bool → Channel → Channel
flagged a r v =
    record {
      entries = v.entries;
      sent = v.sent;
      closed = v.closed;
      sender = a;
      receiver = r;
      count = v.count;
      out = v.out;
      arrived = v.arrived;
      finished = v.finished;
      pending = v.pending;
    }

channel_flagged : {t : Bool} {v : Channel} (a r : Bool) → (a ≡ false → v.sender ≡ false)
    → (r ≡ false → v.receiver ≡ false)
    → ChannelHolds t Logical v → ChannelHolds t Logical (flagged a r v)
channel_flagged a r fa fr i =
    record {
      now = i.now;
      finished = i.finished;
      fits = i.fits;
      round =
          record {
            balanced = more_logical a r fa fr i.round.balanced;
            counted = counted_logical r fr i.round.counted;
          };
    }

module _ (s : GlobalState) (st : List ℕ) (h : History) (p : ℕ) (l : p < s.topology.processes)
    (phase : s.round.phase ≡ Logical) (unmarked : s.progress.logical p ≡ false) (i : Inv s st h) where
  abbrev logical : ℕ → Bool
  logical = upd s.progress.logical p true

  process : (q : ℕ) → q < s.topology.processes
      → ProcessHolds i.tag Logical q (process_at (logical_checkpoint p s) st (mark_now p h) q)
  unfolding logical_checkpoint with_tag with_progress with_logical
  process =
      by_index (λ q. q < s.topology.processes
      → ProcessHolds i.tag Logical q (process_at (logical_checkpoint p s) st (mark_now p h) q)) p
      (λ k.
      rw (upd_same s.tag p (not (s.tag p)), upd_same s.progress.logical p true, book_marked h p)
      (process_logical unmarked (process_in i phase p k)))
      (λ q n k.
      rw (
        upd_other s.tag p q (not (s.tag p)) n,
        upd_other s.progress.logical p q true n,
        book_marked_other h p q n,
      )
      (process_in i phase q k))

  channel : (c : ℕ) → c < s.topology.channels
      → ChannelHolds i.tag Logical (channel_at (logical_checkpoint p s) st (mark_now p h) c)
  unfolding logical_checkpoint with_tag with_progress with_logical
  channel c k =
      let none_yet = no_mark (process_in i phase p l).round.mark unmarked in
      rw (
        seen_marked_in h p sent c (sender s.topology c) none_yet,
        seen_marked_in h p received c (receiver s.topology c) none_yet,
      )
      (channel_flagged _ _ (fewer s.progress.logical p (sender s.topology c))
      (fewer s.progress.logical p (receiver s.topology c)) (channel_in i phase c k))

  pub logical_kept : Inv (logical_checkpoint p s) st (mark_now p h)
  unfolding logical_checkpoint with_tag with_progress with_logical
  logical_kept =
      record {
        sized = i.sized;
        stored = i.stored;
        tag = i.tag;
        processes = λ q k.
            subst (λ (ph : Phase). ProcessHolds i.tag ph q (process_at (logical_checkpoint p s) st (mark_now p h) q))
            (sym phase) (process q k);
        channels = λ c k.
            subst (λ (ph : Phase). ChannelHolds i.tag ph (channel_at (logical_checkpoint p s) st (mark_now p h) c))
            (sym phase) (channel c k);
      }

  pub logical_tag : logical_kept.tag ≡ i.tag
  unfolding logical_kept
  logical_tag = refl
