-- How a receive's parts make up what the definition has: whether a log needed is full, where in the store it has its
-- place, the writes, and what becomes of flags and counts.
use Rattle.std.proofs.Common.{◌≡◌, ℕ, ◌+◌, ◌*◌, ◌%◌, ◌^◌, ◌<◌, ◌≤◌, Bool, true, false, cond, not, ◌&&◌, ◌||◌, leb, List}
use Rattle.std.proofs.Common.{◌++◌, length, sym, refl, ap, ◌∙◌, subst, arith, leb-false}
use mathlib.Core.Bool.{beq}
use mir.Val.{bool_byte}
use Rattle.model.specs.declared.Receipt.{Receipt}
use Rattle.model.specs.Notation.{upd}
use Rattle.model.specs.Layout.{store_cells, Log, message_log, channel_log}
use Rattle.model.specs.Layout.{message_places, channel_places, message_entry_cells, channel_entry_cells, count_cell}
use Rattle.model.specs.Layout.{entry_cell, entry_for}
use Rattle.model.specs.State.{LogCounts, raised, raised_all}
use Rattle.model.specs.Receive.{log_if, any_full}
use Rattle.model.specs.Write.{cell_writes, append_writes, log_writes, logs_writes}
use Rattle.model.specs.Form as form
use Rattle.model.proofs.laws.Tests.{true_is_not_false, or_left, or_true, or_false}
use Rattle.rules.specs.declared.reaction.Reaction.{Reaction}
use Rattle.engine.specs.declared.spot.Spot.{Spot}
use Rattle.engine.specs.Spent.{Spent, append_if}
use Rattle.engine.specs.Receiving.{Fits, full_for}
use Rattle.engine.proofs.Turning.{unchanged}

-- the two logs that a receipt may go into, by their channel and their process
module _ (n : LogCounts) (c p : ℕ) where
  pub either_full : (a b : Bool)
      → any_full n (log_if a (channel_log c) ++ log_if b (message_log p))
      ≡ ((a && leb channel_places (n.channels c)) || (b && leb message_places (n.messages p)))
  unfolding any_full
  either_full true true = ap (λ (t : Bool). leb channel_places (n.channels c) || t) (or_false _)
  either_full true false = refl
  either_full false true = or_false _
  either_full false false = refl

  pub both_written : (line : ℕ) (r : Receipt) (a b : Bool)
      → logs_writes line n (log_if a (channel_log c) ++ log_if b (message_log p)) r
      ≡ append_if a (count_cell line (channel_log c)) (n.channels c) (entry_for (channel_log c) r)
      ++ append_if b (count_cell line (message_log p)) (n.messages p) (entry_for (message_log p) r)
  unfolding logs_writes log_writes append_writes cell_writes
  both_written line r true true = refl
  both_written line r true false = refl
  both_written line r false true = refl
  both_written line r false false = refl

  pub both_raised : (a b : Bool)
      → raised_all (log_if a (channel_log c) ++ log_if b (message_log p)) n
      ≡ record {
        messages = cond b (upd n.messages p (n.messages p + 1)) n.messages;
        channels = cond a (upd n.channels c (n.channels c + 1)) n.channels;
      }
  unfolding raised_all raised
  both_raised true true = refl
  both_raised true false = refl
  both_raised false true = refl
  both_raised false false = refl

-- an append at a cell that is known by another name
pub moved : {st st' : List ℕ} {b b' at at' : ℕ} (t : Bool) (count : ℕ) (entry : List ℕ) → at ≡ at'
    → Spent st b (append_if t at count entry) st' b' → Spent st b (append_if t at' count entry) st' b'
moved {st} {st'} {b} {b'} t count entry e p = subst (λ (a : ℕ). Spent st b (append_if t a count entry) st' b') e p

-- how many writes that are
pub both_cost : (a b : Bool) (m k i j c p : ℕ) (r : Receipt)
    → length (append_if a m i (entry_for (channel_log c) r) ++ append_if b k j (entry_for (message_log p) r))
    ≡ (channel_entry_cells + 1) * bool_byte a + (message_entry_cells + 1) * bool_byte b
unfolding append_writes cell_writes
both_cost true true m k i j c p r = refl
both_cost true false m k i j c p r = refl
both_cost false true m k i j c p r = refl
both_cost false false m k i j c p r = refl

-- the slot goes by the line's parity, so that a line that wraps has the right one
pub same_cell : (k : ℕ) (log : Log) {n at : ℕ} → n ≡ (k + 1) % 2 ^ 32 → at ≡ count_cell n log
    → at ≡ count_cell (k + 1) log
unfolding form.count_cell form.process_record form.channel_record form.slot
same_cell k (message_log p) e f = omega arith
same_cell k (channel_log c) e f = omega arith

-- a test of two, each of them one of two, that fails
first : (t : Bool) (m k : ℕ) (u : Bool) → t ≡ true → ((t && leb m k) || u) ≡ false → k < m
first true m k u e f = leb-false m k (or_left (leb m k) u f)
first false m k u e f = true_is_not_false e refl

second : (t u : Bool) (m k : ℕ) → t ≡ true → (u || (t && leb m k)) ≡ false → k < m
second true true m k e f = true_is_not_false refl f
second true false m k e f = leb-false m k f
second false u m k e f = true_is_not_false e refl

-- no log needed is full: the place for one entry more is in the store
module _ (x : Reaction) (s : Spot) (h : Fits s) (roomy : full_for x s ≡ false) (line : ℕ) where
  pub channel_place : x.channel_log ≡ true
      → entry_cell channel_entry_cells (count_cell line (channel_log s.channel)) s.in_channel + channel_entry_cells
      ≤ store_cells
  unfolding form.count_cell form.channel_record form.slot
  channel_place e = omega (arith, h.channel, first x.channel_log channel_places s.in_channel _ e roomy)

  pub message_place : x.message_log ≡ true
      → entry_cell message_entry_cells (count_cell line (message_log s.process)) s.in_messages + message_entry_cells
      ≤ store_cells
  unfolding form.count_cell form.process_record form.slot
  message_place e = omega (arith, h.receiver, below)
    where
      below : s.in_messages < message_places
      below =
          second x.message_log (x.channel_log && leb channel_places s.in_channel) message_places _ e roomy

-- the code's test turns a tag over
pub toggled : (b t : Bool) → not (beq b t) ≡ cond t (not b) b
toggled true true = refl
toggled true false = refl
toggled false true = refl
toggled false false = refl

-- a flag raised, a tag turned over and a count raised, where that is so
module _ (f : ℕ → Bool) (i : ℕ) {b : Bool} (e : f i ≡ b) where
  pub flagged : (t : Bool) → cond t (upd f i true) f ≡ upd f i (b || t)
  flagged true = ap (upd f i) (sym (or_true b))
  flagged false = sym (unchanged f i (b || false) (e ∙ sym (or_false b)))

  pub turned : (t : Bool) → cond t (upd f i (not (f i))) f ≡ upd f i (cond t (not b) b)
  turned true = ap (λ (v : Bool). upd f i (not v)) e
  turned false = sym (unchanged f i b e)

pub counted : (f : ℕ → ℕ) (i : ℕ) {n : ℕ} → f i ≡ n → (t : Bool)
    → cond t (upd f i (f i + 1)) f ≡ upd f i (n + bool_byte t)
counted f i e true = rw e
counted f i {n} e false = sym (unchanged f i (n + 0) (omega arith))
