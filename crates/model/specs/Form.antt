-- Document 01, "The store": where each thing stands, in a store of any form. The forms differ in what an entry of a
-- message log (board log) is; the sizes that follow from it are worked out here.
use Rattle.std.specs.Prelude.{ℕ, zero, suc, ◌+◌, ◌*◌, ◌%◌, Bool, cond, List, [], ◌∷◌, map, get_or}
use Rattle.std.proofs.Math.Option.{Option, none, some}
use Rattle.model.specs.declared.Receipt.{Receipt}
use Rattle.model.specs.Notation.{tabulate}
use Rattle.model.specs.Word.{receipt, replay_by, undo_by}
use Rattle.model.specs.Topology.{process_limit, channel_limit}

-- A form of the store: how many cells an entry of a message log has, what the receipt in it makes of a word, and, if
-- the logs of late processes hold anti-messages, what one of these makes of a word. (Document 02, M-105: "M-102's old
-- form holds none: its logs are replayed as before.")
pub record Form : Type 0 where
  pub message_cells : ℕ
  pub enter : ℕ → Receipt → ℕ
  pub leave : Option (ℕ → Receipt → ℕ)

-- what a cell holds
unfoldable pub cell : List ℕ → ℕ → ℕ
cell store at = get_or store at 0

-- "Cell 0 is k."
abbrev pub line_cell : ℕ
line_cell = 0

-- A log: the message log (board log) of a process or the channel log (wire log) of a channel. Both have one shape: a
-- count, then the entries, each of as many cells as the log has for one.
pub data Log : Type 0 where
  message_log : ℕ → Log
  channel_log : ℕ → Log

-- "board log (64 places)", "wire log (8 places)"
abbrev pub message_places : ℕ
message_places = 64

abbrev pub channel_places : ℕ
channel_places = 8

abbrev pub places : Log → ℕ
places (message_log p) = message_places
places (channel_log c) = channel_places

-- an entry of a wire log is a body, since its wire is known
abbrev pub channel_entry_cells : ℕ
channel_entry_cells = 1

-- "count, 8 bodies"
abbrev pub channel_cells : ℕ
channel_cells = 9

-- the first cell of the i-th entry of a log whose count stands in the cell `at`, with w cells for an entry
abbrev pub entry_cell : ℕ → ℕ → ℕ → ℕ
entry_cell w at i = at + 1 + w * i

-- what w cells hold, from the cell `at` on
unfoldable pub cells_from : List ℕ → ℕ → ℕ → List ℕ
cells_from store zero at = []
cells_from store (suc w) at = cell store at ∷ cells_from store w (at + 1)

-- the first k entries of a log whose count stands in the cell `at`, each as what its w cells hold
unfoldable pub entries_from : List ℕ → ℕ → ℕ → ℕ → List (List ℕ)
entries_from store w at k = tabulate k (λ i. cells_from store w (entry_cell w at i))

-- what an entry says: in a message log a receipt, body and channel in this order (one without a cell for the channel
-- doesn't tell it, and 0 stands there); in a channel log a body
abbrev pub receipt_in : List ℕ → Receipt
receipt_in entry = receipt (get_or entry 1 0) (get_or entry 0 0)

abbrev pub body_in : List ℕ → ℕ
body_in entry = get_or entry 0 0

-- "words by replaying board logs on copies"; where there is a rule for leaving, document 02, M-105: "Restart undoes
-- these in reverse order on the copy"
unfoldable pub restore_by : Option (ℕ → Receipt → ℕ) → (ℕ → Receipt → ℕ) → ℕ → List Receipt → ℕ
restore_by none enter word rs = replay_by enter word rs
restore_by (some leave) enter word rs = undo_by leave word rs

module _ (F : Form) where
  abbrev pub entry_cells : Log → ℕ
  entry_cells (message_log p) = F.message_cells
  entry_cells (channel_log c) = channel_entry_cells

  -- what a message log makes of the physical checkpoint (copy) of its process, which is late or not
  unfoldable pub restore : Bool → ℕ → List Receipt → ℕ
  restore late word rs = restore_by (cond late F.leave none) F.enter word rs

  -- a board's record: "copy, log count," and 64 entries
  abbrev pub process_cells : ℕ
  process_cells = 2 + message_places * F.message_cells

  -- a half: the records of 16 boards, then those of 64 wires
  abbrev pub channels_start : ℕ
  channels_start = process_limit * process_cells

  abbrev pub slot_cells : ℕ
  slot_cells = channels_start + channel_limit * channel_cells

  -- the store: cell 0 and two halves
  abbrev pub store_cells : ℕ
  store_cells = 1 + 2 * slot_cells

  -- "The half for line n starts at 1 + [its cells] × (n mod 2)." A half is a slot.
  unfoldable pub slot : ℕ → ℕ
  slot n = 1 + slot_cells * (n % 2)

  -- "In it board p's record starts at [its cells] × p"
  unfoldable pub process_record : ℕ → ℕ → ℕ
  process_record n p = slot n + process_cells * p

  -- "Wire w's starts at [where wire records start] + 9 × w"
  unfoldable pub channel_record : ℕ → ℕ → ℕ
  channel_record n c = slot n + channels_start + channel_cells * c

  -- the cell of process p's physical checkpoint (copy) for line n
  unfoldable pub physical_cell : ℕ → ℕ → ℕ
  physical_cell n p = process_record n p

  -- the cell of a log's count, for line n
  unfoldable pub count_cell : ℕ → Log → ℕ
  count_cell n (message_log p) = process_record n p + 1
  count_cell n (channel_log c) = channel_record n c

  -- the first k entries of a log for line n
  unfoldable pub entries_by : List ℕ → ℕ → Log → ℕ → List (List ℕ)
  entries_by store n log k = entries_from store (entry_cells log) (count_cell n log) k

  -- the first k receipts of process p's message log, and the first k bodies of channel c's log, for line n
  unfoldable pub receipts_by : List ℕ → ℕ → ℕ → ℕ → List Receipt
  receipts_by store n p k = map receipt_in (entries_by store n (message_log p) k)

  unfoldable pub bodies_by : List ℕ → ℕ → ℕ → ℕ → List ℕ
  bodies_by store n c k = map body_in (entries_by store n (channel_log c) k)

  -- the bodies that channel c's log for line n holds in the store: as many as its count there says
  unfoldable pub logged : List ℕ → ℕ → ℕ → List ℕ
  logged store n c = bodies_by store n c (cell store (count_cell n (channel_log c)))

  -- the numbers that the papers give: the cells of a board's record, where wire records start in the half, the cells of
  -- the half and those of the store
  unfoldable pub numbers : List ℕ
  numbers = process_cells ∷ channels_start ∷ slot_cells ∷ store_cells ∷ []
