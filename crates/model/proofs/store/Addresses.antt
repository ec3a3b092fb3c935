-- Where the planned things of a store stand, in any form of it: each within its slot, and no two of them in one cell.
use Prim.Native.Nat.{ℕ, ◌+◌, ◌-◌, ◌*◌, ◌%◌, ◌<◌, ◌≤◌}
use mathlib.Core.Path.{◌≡◌, ap}
use mathlib.Core.List.{List}
use lib.ListN.{length}
use native.Mathlib.Omega.{arith}
use native.Mathlib.Nat.{mul-le-mul_left}
use Rattle.model.specs.declared.Topology.{Topology}
use Rattle.model.specs.Topology.{process_limit}
use Rattle.model.specs.Form.{Form, line_cell, Log, message_log, channel_log, places, channel_cells, entry_cell}
use Rattle.model.specs.Form.{entry_cells, process_cells, slot_cells, slot, process_record, channel_record}
use Rattle.model.specs.Form.{physical_cell, count_cell}
use Rattle.model.proofs.laws.TopologyLaws.{Planned}
use Rattle.model.proofs.store.Entries.{entry_ends, one_entry}
use Rattle.model.proofs.store.Sizes.{Sized}

-- cell a belongs to the slot for line n
pub record Within (F : Form) (n a : ℕ) : Type 0 where
  pub from : slot F n ≤ a
  pub to : a < slot F n + slot_cells F

-- the first cell of place i of a log, for line n
abbrev pub place_at : Form → ℕ → Log → ℕ → ℕ
place_at F n log i = entry_cell (entry_cells F log) (count_cell F n log) i

-- cell a belongs to a log for line n: its count, or one of its first k places
pub record Upto (F : Form) (n : ℕ) (log : Log) (k a : ℕ) : Type 0 where
  pub from : count_cell F n log ≤ a
  pub to : a < place_at F n log k

-- .. or any of them
abbrev pub Of : Form → ℕ → Log → ℕ → Type 0
Of F n log a = Upto F n log (places log) a

module _ {F : Form} where
  pub upto_more : (n : ℕ) (log : Log) (k m a : ℕ) → k ≤ m → Upto F n log k a → Upto F n log m a
  upto_more n log k m a l h =
      record { from = h.from; to = omega (arith, h.to, mul-le-mul_left (entry_cells F log) l) }

  -- the line cell is in no slot
  pub line_outside : (n : ℕ) → Within F n line_cell → ⊥
  unfolding slot
  line_outside n h = omega (arith, h.from)

-- a log's count stands a fixed number of cells after that of the log before it
module _ (F : Form) where
  pub message_cell : (n i : ℕ) → count_cell F n (message_log 0) + process_cells F * i ≡ count_cell F n (message_log i)
  unfolding count_cell process_record
  message_cell n i = omega arith

  pub channel_cell : (n i : ℕ) → count_cell F n (channel_log 0) + channel_cells * i ≡ count_cell F n (channel_log i)
  unfolding count_cell channel_record
  channel_cell n i = omega arith

  -- the next line's slot is the other one
  pub other_within : (k a : ℕ) → Within F k a → Within F (k + 1) a → ⊥
  unfolding slot
  other_within k a h g =
      let one : k % 2 ≡ (k + 1) % 2 = one_entry (slot_cells F) (k % 2) ((k + 1) % 2) (a - 1)
      (record { from = omega (arith, h.from); to = omega (arith, h.from, h.to) })
      (record { from = omega (arith, g.from); to = omega (arith, g.from, g.to) }) in
      omega (arith, one)

  -- physical checkpoints are in different cells
  pub one_physical : (n p q : ℕ) → physical_cell F n p ≡ physical_cell F n q → p ≡ q
  unfolding physical_cell process_record
  one_physical n p q e =
      one_entry (process_cells F) p q (process_cells F * p) (record { from = omega arith; to = omega arith })
      (record { from = omega arith; to = omega arith })

module _ {F : Form} {T : Topology} {st : List ℕ} (sized : Sized F T st) where
  -- the store has the line cell and both slots
  pub line_in_store : line_cell < length st
  line_in_store = omega (arith, sized.cells)

  pub in_store : (n a : ℕ) → Within F n a → a < length st
  unfolding slot
  in_store n a h =
      let half : n % 2 ≤ 1 = omega arith in
      omega (arith, sized.cells, h.to, mul-le-mul_left (slot_cells F) half)

  -- the record of a planned process ends before the channels' records
  record_ends : (p : ℕ) → p < T.processes → process_cells F * p + process_cells F ≤ process_cells F * process_limit
  record_ends p l = entry_ends (process_cells F) p process_limit (omega (arith, sized.processes))

  -- physical checkpoints and logs are within their slot
  pub physical_within : (n p : ℕ) → p < T.processes → Within F n (physical_cell F n p)
  unfolding physical_cell process_record
  physical_within n p l = record { from = omega arith; to = omega (arith, record_ends p l) }

  pub log_within : (n : ℕ) (log : Log) (a : ℕ) → Planned T log → Of F n log a → Within F n a
  unfolding count_cell process_record channel_record
  log_within n (message_log p) a l h =
      record { from = omega (arith, h.from); to = omega (arith, h.to, record_ends p l) }
  log_within n (channel_log c) a l h =
      record { from = omega (arith, h.from); to = omega (arith, h.to, sized.channels) }

  pub count_within : (n : ℕ) (log : Log) → Planned T log → Within F n (count_cell F n log)
  count_within n log planned =
      log_within n log (count_cell F n log) planned (record { from = omega arith; to = omega arith })

  -- an entry, up to its last cell, is in the store
  pub entry_inside : (n : ℕ) (log : Log) (i : ℕ) → Planned T log → i < places log
      → place_at F n log i + entry_cells F log ≤ length st
  entry_inside n log i planned l =
      let last : ℕ = count_cell F n log + entry_cells F log * places log in
      let within : Within F n last = log_within n log last planned
      (record { from = omega arith; to = omega arith }) in
      omega (arith, in_store n last within, entry_ends (entry_cells F log) i (places log) l)

  -- a cell belongs to one log, and a physical checkpoint's to none
  pub one_log : (n : ℕ) (log other : Log) (a : ℕ) → Planned T log → Planned T other → Of F n log a → Of F n other a
      → log ≡ other
  unfolding count_cell process_record channel_record
  one_log n (message_log p) (message_log q) a l k h g =
      ap message_log (one_entry (process_cells F) p q (a - slot F n)
      (record { from = omega (arith, h.from); to = omega (arith, h.from, h.to) })
      (record { from = omega (arith, g.from); to = omega (arith, g.from, g.to) }))
  one_log n (message_log p) (channel_log c) a l k h g = absurd (omega (arith, h.to, g.from, record_ends p l))
  one_log n (channel_log c) (message_log q) a l k h g = absurd (omega (arith, g.to, h.from, record_ends q k))
  one_log n (channel_log c) (channel_log d) a l k h g = ap channel_log (omega arith)

  pub no_log : (n p : ℕ) (log : Log) → p < T.processes → Planned T log → Of F n log (physical_cell F n p) → ⊥
  unfolding physical_cell count_cell process_record channel_record
  no_log n p (message_log q) l k h =
      let one : p ≡ q = one_entry (process_cells F) p q (process_cells F * p)
      (record { from = omega arith; to = omega arith })
      (record { from = omega (arith, h.from); to = omega (arith, h.to) }) in
      omega (arith, h.from, ap (λ (i : ℕ). process_cells F * i) one)
  no_log n p (channel_log c) l k h = omega (arith, h.from, record_ends p l)
