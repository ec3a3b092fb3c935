-- A receipt into one log of the pending slot: every other log stays, and the process or the channel whose log it is has
-- one entry more. Where the power is lost within the writes, nothing shows.
use Prim.Native.Nat.{ℕ, ◌+◌, ◌<◌, ◌≤◌}
use mathlib.Core.Path.{◌≡◌, refl, sym, ap, subst, ◌∙◌}
use mathlib.Core.List.{List, [], ◌∷◌, map-append}
use lib.ListN.{length, take}
use native.Mathlib.Omega.{arith}
use Rattle.model.specs.declared.Receipt.{Receipt}
use Rattle.model.specs.Layout.{Log, message_log, channel_log, message_places, channel_places}
use Rattle.model.specs.Layout.{present, places, entries_by, entry_for, receipt_in, body_in}
use Rattle.model.specs.State.{GlobalState, count_of}
use Rattle.model.specs.Write.{Write, write_all, log_writes}
use Rattle.model.specs.History.{History}
use Rattle.model.specs.Form as form
use Rattle.model.proofs.laws.Functions.{Indices, same, other, indices}
use Rattle.model.proofs.laws.TopologyLaws.{Planned}
use Rattle.model.proofs.laws.SoundLaws.{Fits}
use Rattle.model.proofs.store.Writes.{each_take}
use Rattle.model.proofs.store.Addresses.{Of}
use Rattle.model.proofs.store.Slots.{IntoLog, log_into, log_in, log_other, log_physical, log_counted}
use Rattle.model.proofs.store.Slots.{log_appended, log_behind}
use Rattle.model.proofs.store.Slots.{SameLog, log_lost}
use Rattle.model.proofs.line.Values.{slot_by, held_by, process_at, channel_at}
use Rattle.model.proofs.line.Invariant.{Inv}
use Rattle.model.proofs.line.ProcessState.{logged_slot}
use Rattle.model.proofs.line.ChannelKept.{logged_held}
use Rattle.model.proofs.line.Frames.{slot_same, held_same, Spared, spared, spared_all, unseen_kept}

pub other_message : {p q : ℕ} → (p ≡ q → ⊥) → message_log p ≡ message_log q → ⊥
other_message n e = n (cc)

pub other_channel : {p q : ℕ} → (p ≡ q → ⊥) → channel_log p ≡ channel_log q → ⊥
other_channel n e = n (cc)

pub message_is_no_channel : {p c : ℕ} → message_log p ≡ channel_log c → ⊥
message_is_no_channel e = let z : ◌≡◌ {A = ℕ} 0 1 = cc in omega arith

-- two logs: the same, or not
pub data Logs (a b : Log) : Type 0 where
  one : a ≡ b → Logs a b
  two : (a ≡ b → ⊥) → Logs a b

pub logs : (a b : Log) → Logs a b
logs (message_log p) (message_log q) = go (indices p q)
  where
    go : Indices p q → Logs (message_log p) (message_log q)
    go (same e) = one (ap message_log e)
    go (other o) = two (other_message o)
logs (message_log p) (channel_log c) = two message_is_no_channel
logs (channel_log c) (message_log p) = two (λ e. message_is_no_channel (sym e))
logs (channel_log c) (channel_log d) = go (indices c d)
  where
    go : Indices c d → Logs (channel_log c) (channel_log d)
    go (same e) = one (ap channel_log e)
    go (other o) = two (other_channel o)

module _ (s : GlobalState) (st : List ℕ) (h : History) (i : Inv s st h) (fits : Fits s.topology s.counts)
    (log : Log)
    (planned : Planned s.topology log) (r : Receipt) (room : count_of s.counts log < places log) where
  abbrev n : ℕ
  n = s.round.line + 1

  abbrev writes : List Write
  writes = log_writes n log (count_of s.counts log) r

  abbrev after : List ℕ
  after = write_all st writes

  into : IntoLog n log writes
  into = log_into n log (count_of s.counts log) r room

  pub log_spared : Spared s st after
  log_spared = spared_all i writes (log_in s.topology st i.sized n log planned writes into)

  -- a process and a channel with another log, however many of the writes are made
  module _ (ws : List Write) (part : IntoLog n log ws) where
    pub slot_aside : (q : ℕ) → q < s.topology.processes → (log ≡ message_log q → ⊥)
        → slot_by (write_all st ws) n (s.counts.messages q) q ≡ slot_by st n (s.counts.messages q) q
    slot_aside q l o =
        slot_same n q (s.counts.messages q)
        (record {
          physical = log_physical s.topology st i.sized n log planned ws part q l;
          log =
              log_other s.topology st i.sized n log planned ws part (message_log q) l o _ (fits (message_log q) l);
        })

    pub held_aside_by : (c k : ℕ) → c < s.topology.channels → k ≤ channel_places → (log ≡ channel_log c → ⊥)
        → held_by (write_all st ws) n k c ≡ held_by st n k c
    held_aside_by c k l m o =
        held_same n c k (log_other s.topology st i.sized n log planned ws part (channel_log c) l o k m)

    pub held_aside : (c : ℕ) → c < s.topology.channels → (log ≡ channel_log c → ⊥)
        → held_by (write_all st ws) n (s.counts.channels c) c ≡ held_by st n (s.counts.channels c) c
    held_aside c l o = held_aside_by c (s.counts.channels c) l (fits (channel_log c) l) o

  -- the power is lost before the log's count is written
  pub log_lost_kept : (x : ℕ) → x < length writes → Inv s (write_all st (take x writes)) h
  log_lost_kept x k =
      unseen_kept i (spared i writes (log_in s.topology st i.sized n log planned writes into) x)
      (λ q l. slot (logs log (message_log q)) q l refl)
      (λ c l. held (logs log (channel_log c)) c l refl)
    where
      part : IntoLog n log (take x writes)
      part = each_take (λ w. Of present n log w.cell) x writes into

      behind : SameLog n log (count_of s.counts log) st (write_all st (take x writes))
      behind = log_lost s.topology st i.sized n log (count_of s.counts log) r planned room x k

      slot : {other : Log} → Logs log other → (q : ℕ) → q < s.topology.processes → other ≡ message_log q
          → slot_by (write_all st (take x writes)) n (s.counts.messages q) q ≡ slot_by st n (s.counts.messages q) q
      slot (one e) q l is =
          slot_same n q (s.counts.messages q)
          (record {
            physical = log_physical s.topology st i.sized n log planned (take x writes) part q l;
            log =
                subst (λ (y : Log). SameLog n y (count_of s.counts y) st (write_all st (take x writes))) (e ∙ is)
                behind;
          })
      slot (two o) q l is = slot_aside (take x writes) part q l (λ e. o (e ∙ sym is))

      held : {other : Log} → Logs log other → (c : ℕ) → c < s.topology.channels → other ≡ channel_log c
          → held_by (write_all st (take x writes)) n (s.counts.channels c) c ≡ held_by st n (s.counts.channels c) c
      held (one e) c l is =
          held_same n c (s.counts.channels c)
          (subst (λ (y : Log). SameLog n y (count_of s.counts y) st (write_all st (take x writes))) (e ∙ is) behind)
      held (two o) c l is = held_aside (take x writes) part c l (λ e. o (e ∙ sym is))

module _ (s : GlobalState) (st : List ℕ) (h : History) (i : Inv s st h) (r : Receipt) where
  -- the process whose log it is has it entered, and the channel has it in its log
  pub slot_logged : (q : ℕ) → q < s.topology.processes → s.counts.messages q < message_places
      → slot_by (write_all st (log_writes (s.round.line + 1) (message_log q) (s.counts.messages q) r))
      (s.round.line + 1)
      (s.counts.messages q + 1) q
      ≡ logged_slot r (process_at s st h q)
  unfolding slot_by form.receipts_by
  slot_logged q l room =
      let n : ℕ = s.round.line + 1 in
      let k : ℕ = s.counts.messages q in
      let log : Log = message_log q in
      let kept = log_physical s.topology st i.sized n log l (log_writes n log k r) (log_into n log k r room) q l in
      rw (
        log_counted s.topology st i.sized n log k r l room,
        log_appended s.topology st i.sized n log k r l room,
        kept,
        map-append receipt_in (entries_by st n log k) (entry_for log r ∷ []),
      )

  -- the channel's log, read as the state has it: the store is one ahead
  pub held_behind : (c : ℕ) → c < s.topology.channels → s.counts.channels c < channel_places
      → held_by (write_all st (log_writes (s.round.line + 1) (channel_log c) (s.counts.channels c) r))
      (s.round.line + 1)
      (s.counts.channels c) c
      ≡ record { bodies = (channel_at s st h c).pending.bodies; count = s.counts.channels c + 1 }
  unfolding held_by form.bodies_by
  held_behind c l room =
      let n : ℕ = s.round.line + 1 in
      let k : ℕ = s.counts.channels c in
      let log : Log = channel_log c in
      rw (
        log_counted s.topology st i.sized n log k r l room,
        log_behind s.topology st i.sized n log k r l room,
      )

  pub held_logged : (c : ℕ) → c < s.topology.channels → s.counts.channels c < channel_places
      → held_by (write_all st (log_writes (s.round.line + 1) (channel_log c) (s.counts.channels c) r))
      (s.round.line + 1)
      (s.counts.channels c + 1) c
      ≡ logged_held r.body (channel_at s st h c)
  unfolding held_by form.bodies_by
  held_logged c l room =
      let n : ℕ = s.round.line + 1 in
      let k : ℕ = s.counts.channels c in
      let log : Log = channel_log c in
      rw (
        log_counted s.topology st i.sized n log k r l room,
        log_appended s.topology st i.sized n log k r l room,
        map-append body_in (entries_by st n log k) (entry_for log r ∷ []),
      )
