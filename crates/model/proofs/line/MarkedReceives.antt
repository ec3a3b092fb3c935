-- A message received in the logical phase, with a receiver that has its logical checkpoint. A new one goes into no log,
-- an old one into the channel's; and either goes into the message log too, as an anti-message, where the receiver is
-- late and has no physical checkpoint yet. Whether the power lasts or not, the invariant holds.
use Prim.Native.Nat.{ℕ, zero, suc, ◌+◌, ◌<◌}
use mathlib.Core.Path.{◌≡◌, refl, sym, ap, ◌∙◌}
use mathlib.Core.Bool.{Bool, true, false, not, ◌&&◌}
use mathlib.Core.List.{List, [], ◌∷◌, ◌++◌}
use lib.ListN.{length, take}
use lib.Dec.{leb}
use borrow.Author.Tests.{leb-false, not-true}
use native.Mathlib.Omega.{arith}
use Rattle.model.specs.declared.Phase.TheVariants.{Logical}
use Rattle.model.specs.declared.Receipt.{Receipt}
use Rattle.model.specs.declared.Entry.{Entry}
use Rattle.model.specs.declared.Entry.TheVariants.{Message}
use Rattle.model.specs.Notation.{upd}
use Rattle.model.specs.Word.{receipt}
use Rattle.model.specs.Topology.{receiver, is_late}
use Rattle.model.specs.Layout.{Log, message_log, channel_log, message_places, channel_places, places}
use Rattle.model.specs.State.{GlobalState, count_of, raised, raised_all}
use Rattle.model.specs.Write.{write_all, cell_writes, append_writes, log_writes, logs_writes}
use Rattle.model.specs.Receive.{log_if, any_full}
use Rattle.model.specs.History.{History}
use Rattle.model.proofs.laws.Tests.{and_left, and_right, or_left, or_right, Tested, holds, fails}
use Rattle.model.proofs.laws.Functions.{upd_same, upd_other}
use Rattle.model.proofs.laws.SoundLaws.{Fits}
use Rattle.model.proofs.store.Slots.{log_into}
use Rattle.model.proofs.line.Values.{Held, process_at, channel_at, held_by}
use Rattle.model.proofs.line.Invariant.{EndsPlanned, Inv}
use Rattle.model.proofs.line.ProcessState.{received_after, received_anti}
use Rattle.model.proofs.line.ChannelKept.{logged_held, left_new, left_logged}
use Rattle.model.proofs.line.Phases.{process_in, channel_in}
use Rattle.model.proofs.line.LogFrames.{message_is_no_channel, held_aside_by, log_lost_kept, held_behind}
use Rattle.model.proofs.line.LogFrames.{held_logged}
use Rattle.model.proofs.line.MessageKept.{delivered, added, unlogged, in_message_log_lem}
use Rattle.model.proofs.line.MessageKept.{message_alone, channel_alone, after_channel, ahead_kept, ahead_tag}

-- a late process without a physical checkpoint
abbrev pub late_unsaved_in : GlobalState → ℕ → Bool
late_unsaved_in s p = is_late s.topology p && not (s.progress.saved p)

-- an old message that the channel's log in the store has and the state doesn't know of yet: now the anti-message
then_anti : (s : GlobalState) (st : List ℕ) (h : History) (i : Inv s st h) (ends : EndsPlanned s.topology)
    (fits : Fits s.topology s.counts) (c b : ℕ) (u : Bool) (es : List Entry) (l : c < s.topology.channels)
    → s.round.phase ≡ Logical → s.progress.logical (receiver s.topology c) ≡ true
    → s.channel c ≡ Message b u ∷ es → u ≡ i.tag → late_unsaved_in s (receiver s.topology c) ≡ true
    → s.counts.messages (receiver s.topology c) < message_places
    → let r : ℕ = receiver s.topology c in
    let n : ℕ = s.round.line + 1 in
    let after : List ℕ = write_all st (log_writes n (message_log r) (s.counts.messages r) (receipt c b)) in
    held_by after n (s.counts.channels c + 1) c ≡ logged_held b (channel_at s st h c)
    → Inv (delivered s st h i ends c b u es l (raised (message_log r) (raised (channel_log c) s.counts))) after
    (added s st h i ends c b u es l)
unfolding raised
then_anti s st h i ends fits c b u es l phase flag first old e room held =
    let r : ℕ = receiver s.topology c in
    let k : ℕ = s.counts.channels c in
    let process = process_in i phase r (ends c l).1 in
    in_message_log_lem s st h i ends c b u es l fits room (upd s.counts.channels c (k + 1))
    (λ d _ o. upd_other s.counts.channels c d (k + 1) o)
    (rw phase
    (received_anti c b flag process (and_left _ _ e) (not-true _ (and_right (is_late s.topology r) _ e))))
    (rw (phase, upd_same s.counts.channels c (k + 1), held)
    (left_logged i.tag r (process_at s st h r) (channel_at s st h c) c b u es first refl process refl
    (channel_in i phase c l) flag old))

module _ (s : GlobalState) (st : List ℕ) (h : History) (i : Inv s st h) (ends : EndsPlanned s.topology)
    (fits : Fits s.topology s.counts) (c b : ℕ) (u : Bool) (es : List Entry) (l : c < s.topology.channels)
  where
    abbrev r : ℕ
    r = receiver s.topology c

    abbrev rl : r < s.topology.processes
    rl = (ends c l).1

    abbrev n : ℕ
    n = s.round.line + 1

    abbrev got : Receipt
    got = receipt c b

    abbrev unsaved_receiver : Bool
    unsaved_receiver = late_unsaved_in s r

    -- the invariant with the message in these logs, where the power lasts, and where it is lost on the way
    abbrev pub Logged : List Log → Type 0
    Logged logs =
        Inv (delivered s st h i ends c b u es l (raised_all logs s.counts))
        (write_all st (logs_writes n s.counts logs got)) (added s st h i ends c b u es l)

    abbrev pub LostOn : List Log → Type 0
    LostOn logs =
        (x : ℕ) → x < length (logs_writes n s.counts logs got)
        → Inv s (write_all st (take x (logs_writes n s.counts logs got))) h

    message_room : (logs : List Log) → any_full s.counts (message_log r ∷ logs) ≡ false
        → s.counts.messages r < message_places
    unfolding any_full
    message_room logs room = leb-false _ _ (or_left _ _ room)

    channel_room_lem : (logs : List Log) → any_full s.counts (channel_log c ∷ logs) ≡ false
        → s.counts.channels c < channel_places
    unfolding any_full
    channel_room_lem logs room = leb-false _ _ (or_left _ _ room)

    other_room : (log : Log) (logs : List Log) → any_full s.counts (log ∷ logs) ≡ false
        → any_full s.counts logs ≡ false
    unfolding any_full
    other_room log logs room = or_right (leb (places log) (count_of s.counts log)) _ room

    -- the receiver's message log alone, or none
    abbrev pub anti_logs : List Log
    anti_logs = log_if unsaved_receiver (message_log r)

    pub anti_lost : Tested unsaved_receiver → any_full s.counts anti_logs ≡ false → LostOn anti_logs
    unfolding logs_writes log_writes append_writes cell_writes
    anti_lost (holds e) room =
        rw e (log_lost_kept s st h i fits (message_log r) rl got (message_room [] (rw e at room)))
    anti_lost (fails e) room = rw e (λ x k. absurd (omega arith))

    module _ (phase : s.round.phase ≡ Logical) (flag : s.progress.logical r ≡ true)
        (first : s.channel c ≡ Message b u ∷ es) where
      pub new_received : u ≡ not i.tag → Tested unsaved_receiver → any_full s.counts anti_logs ≡ false
          → Logged anti_logs
      unfolding raised_all logs_writes log_writes append_writes cell_writes write_all
      new_received new (holds e) room =
          rw e
          (message_alone s st h i ends c b u es l fits (message_room [] (rw e at room))
          (rw phase
          (received_anti c b flag (process_in i phase r rl) (and_left _ _ e)
          (not-true _ (and_right (is_late s.topology r) _ e))))
          (rw phase
          (left_new i.tag r (process_at s st h r) (channel_at s st h c) c b u es first refl (process_in i phase r rl)
          refl (channel_in i phase c l) flag new)))
      new_received new (fails e) room =
          rw e
          (unlogged s st h i ends c b u es l (rw phase (received_after c b flag (process_in i phase r rl) e))
          (rw phase
          (left_new i.tag r (process_at s st h r) (channel_at s st h c) c b u es first refl (process_in i phase r rl)
          refl (channel_in i phase c l) flag new)))

      -- an old message, with room in the channel's log
      module _ (old : u ≡ i.tag) (room : s.counts.channels c < channel_places) where
        -- the store with the channel's log written
        abbrev st₁ : List ℕ
        st₁ = after_channel s st h i ends c b u es l fits room

        abbrev i₁ : Inv s st₁ h
        i₁ = ahead_kept s st h i ends c b u es l fits room phase flag first old

        old₁ : u ≡ i₁.tag
        old₁ = old ∙ sym (ahead_tag s st h i ends c b u es l fits room phase flag first old)

        -- a receiver with its physical checkpoint
        old_saved : unsaved_receiver ≡ false → Logged (channel_log c ∷ [])
        unfolding raised_all logs_writes log_writes append_writes cell_writes write_all
        old_saved e =
            channel_alone s st h i ends c b u es l fits room
            (rw phase (received_after c b flag (process_in i phase r rl) e))
            (rw phase
            (left_logged i.tag r (process_at s st h r) (channel_at s st h c) c b u es first refl
            (process_in i phase r rl) refl (channel_in i phase c l) flag old))

        -- a late one without
        module _ (e : unsaved_receiver ≡ true) (anti-room : s.counts.messages r < message_places) where
          abbrev count : ℕ
          count = s.counts.channels c

          both_held : held_by (write_all st₁ (log_writes n (message_log r) (s.counts.messages r) got)) n (count + 1) c
              ≡ logged_held b (channel_at s st₁ h c)
          both_held =
              held_aside_by s st₁ h i₁ fits (message_log r) rl got anti-room _
              (log_into n (message_log r) (s.counts.messages r) got anti-room) c (count + 1) l (omega arith)
              message_is_no_channel
              ∙ held_logged s st h i got c l room
              ∙ ap (λ (x : Held). record { bodies = x.bodies ++ (b ∷ []); count = count + 1 })
              (sym (held_behind s st h i got c l room))

          old_unsaved : Logged (channel_log c ∷ message_log r ∷ [])
          unfolding raised_all raised logs_writes log_writes append_writes cell_writes write_all
          old_unsaved = then_anti s st₁ h i₁ ends fits c b u es l phase flag first old₁ e anti-room both_held

          both_lost : LostOn (channel_log c ∷ message_log r ∷ [])
          unfolding logs_writes log_writes append_writes cell_writes write_all
          both_lost zero k = i
          both_lost (suc zero) k = log_lost_kept s st h i fits (channel_log c) l got room 1 (omega arith)
          both_lost (suc (suc x)) k = log_lost_kept s st₁ h i₁ fits (message_log r) rl got anti-room x (omega arith)

      pub old_received : u ≡ i.tag → Tested unsaved_receiver → any_full s.counts (channel_log c ∷ anti_logs) ≡ false
          → Logged (channel_log c ∷ anti_logs)
      old_received old (holds e) room =
          rw e
          (old_unsaved old (channel_room_lem _ room) e
          (message_room [] (rw e at (other_room (channel_log c) anti_logs room))))
      old_received old (fails e) room = rw e (old_saved old (channel_room_lem _ room) e)

      pub old_lost : u ≡ i.tag → Tested unsaved_receiver → any_full s.counts (channel_log c ∷ anti_logs) ≡ false
          → LostOn (channel_log c ∷ anti_logs)
      unfolding logs_writes log_writes append_writes cell_writes
      old_lost old (holds e) room =
          rw e
          (both_lost old (channel_room_lem _ room) e (message_room [] (rw e at (other_room
          (channel_log c) anti_logs room))))
      old_lost old (fails e) room =
          rw e (log_lost_kept s st h i fits (channel_log c) l got (channel_room_lem _ room))
