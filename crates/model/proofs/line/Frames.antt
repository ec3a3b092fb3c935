-- Writes and the invariant: what keeps the values that it reads of the two slots. Writes into the slot for the next
-- line leave the finished line (`Spared`), and writes that don't show in the pending slot either leave everything.
use Prim.Native.Nat.{ℕ, ◌+◌, ◌<◌}
use mathlib.Core.Path.{◌≡◌, refl, sym, subst, ◌∙◌}
use mathlib.Core.List.{List, map}
use lib.ListN.{length, take}
use lib.Seq.{take-length}
use Rattle.model.specs.Layout.{present, cell, line_cell, message_log, channel_log, count_cell, receipt_in}
use Rattle.model.specs.Layout.{body_in}
use Rattle.model.specs.State.{GlobalState}
use Rattle.model.specs.Write.{Write, write_all}
use Rattle.model.specs.History.{History}
use Rattle.model.specs.Form as form
use Rattle.model.proofs.store.Sizes.{Sized, sized_after}
use Rattle.model.proofs.store.Slots.{SameLog, SameProcess, InSlot, spared_log, spared_process}
use Rattle.model.proofs.store.Slots.{spared_line}
use Rattle.model.proofs.line.Values.{slot_of, slot_by, held_of, held_by}
use Rattle.model.proofs.line.Invariant.{Inv}

-- a slot with the same process and the same log, read with k entries
module _ {st st' : List ℕ} (n p k : ℕ) where
  pub slot_same : SameProcess n p k st st' → slot_by st' n k p ≡ slot_by st n k p
  unfolding slot_by form.receipts_by
  slot_same e =
      λ i. record { physical = e.physical i; receipts = map receipt_in (e.log.entries i); count = e.log.count i }

  pub held_same : SameLog n (channel_log p) k st st' → held_by st' n k p ≡ held_by st n k p
  unfolding held_by form.bodies_by
  held_same e = λ i. record { bodies = map body_in (e.entries i); count = e.count i }

-- reading with the store's own count is reading with that many
module _ (st : List ℕ) (n p k : ℕ) where
  pub slot_by_lem : k ≡ cell st (count_cell n (message_log p)) → slot_of st n p ≡ slot_by st n k p
  unfolding slot_of
  slot_by_lem e = rw e

  pub held_by_lem : k ≡ cell st (count_cell n (channel_log p)) → held_of st n p ≡ held_by st n k p
  unfolding held_of held_by form.logged
  held_by_lem e = rw e

module _ {st st' : List ℕ} (n p : ℕ) where
  pub slot_own : SameProcess n p (cell st (count_cell n (message_log p))) st st' → slot_of st' n p ≡ slot_of st n p
  slot_own e =
      slot_by_lem st' n p (cell st (count_cell n (message_log p))) (sym e.log.count) ∙ slot_same n p _ e
      ∙ sym (slot_by_lem st n p (cell st (count_cell n (message_log p))) refl)

  pub held_own : SameLog n (channel_log p) (cell st (count_cell n (channel_log p))) st st'
      → held_of st' n p ≡ held_of st n p
  held_own e =
      held_by_lem st' n p (cell st (count_cell n (channel_log p))) (sym e.count) ∙ held_same n p _ e
      ∙ sym (held_by_lem st n p (cell st (count_cell n (channel_log p))) refl)

-- the finished line is as it was
pub record Spared (s : GlobalState) (st st' : List ℕ) : Type 0 where
  pub sized : Sized present s.topology st'
  pub line : cell st' line_cell ≡ cell st line_cell
  pub slots : (p : ℕ) → p < s.topology.processes → slot_of st' s.round.line p ≡ slot_of st s.round.line p
  pub helds : (c : ℕ) → c < s.topology.channels → held_of st' s.round.line c ≡ held_of st s.round.line c

module _ {s : GlobalState} {st : List ℕ} {h : History} (i : Inv s st h) where
  module _ (ws : List Write) (into : InSlot (s.round.line + 1) ws) where
    pub spared : (b : ℕ) → Spared s st (write_all st (take b ws))
    unfolding slot_of slot_by held_of
    spared b =
        record {
          sized = sized_after i.sized (take b ws);
          line = spared_line s.topology st i.sized s.round.line ws into b;
          slots = λ p l.
              slot_own s.round.line p
              (spared_process s.topology st i.sized s.round.line ws into b p l _ (i.processes p l).fits);
          helds = λ c l.
              held_own s.round.line c
              (spared_log s.topology st i.sized s.round.line ws into b (channel_log c) l _
              (i.channels c l).fits);
        }

    pub spared_all : Spared s st (write_all st ws)
    spared_all = subst (λ (x : List Write). Spared s st (write_all st x)) (take-length ws) (spared (length ws))

  -- nothing shows in the pending slot either, read with the state's counts
  pub unseen_kept : {st' : List ℕ} → Spared s st st'
      → ((p : ℕ) → p < s.topology.processes
      → slot_by st' (s.round.line + 1) (s.counts.messages p) p
      ≡ slot_by st (s.round.line + 1) (s.counts.messages p) p)
      → ((c : ℕ) → c < s.topology.channels
      → held_by st' (s.round.line + 1) (s.counts.channels c) c
      ≡ held_by st (s.round.line + 1) (s.counts.channels c) c)
      → Inv s st' h
  unseen_kept kept slots helds =
      record {
        sized = kept.sized;
        stored = kept.line ∙ i.stored;
        tag = i.tag;
        processes = λ p l. rw (kept.slots p l, slots p l) (i.processes p l);
        channels = λ c l. rw (kept.helds c l, helds c l) (i.channels c l);
      }
