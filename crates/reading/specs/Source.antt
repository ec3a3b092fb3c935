-- Which form the code's stands for, and what is read of a store.
use Rattle.std.specs.Prelude.{◌≡◌, ℕ, ◌+◌, ◌*◌, ◌<◌, ◌≤◌, Bool, false, cond, ◌&&◌, ltb}
use Rattle.std.specs.Prelude.{List, [], ◌∷◌, map, length, nat_le, nat_lt}
use Rattle.std.proofs.Math.Option.{Option}
use Rattle.model.specs.declared.Entry.{Entry}
use Rattle.model.specs.declared.Receipt.{Receipt}
use Rattle.model.specs.Check.{◌gives◌, first_refusal}
use Rattle.model.specs.Topology.{process_limit, channel_limit}
use Rattle.model.specs.Channel.{messages}
use Rattle.model.specs.Form as model
use Rattle.model.specs.Form.{cell, message_places, channel_entry_cells, entries_from, receipt_in, body_in, logged}
use Rattle.model.specs.Form.{restore, Log, message_log, channel_log, places, entry_cells, count_cell}
use Rattle.model.specs.Layout.{present}
use Rattle.model.specs.Recover.{stored_line, restored}
use Rattle.reading.specs.declared.form.Form.{Form}
use Rattle.reading.specs.declared.form.Form.TheVariants.{Old, Present}
use Rattle.reading.specs.Old.{old}

abbrev pub form_of : Form → model.Form
form_of Old = old
form_of Present = present

-- a number of a form's is what the definition says, and so small that a few of them can be added
pub record Small (n r : ℕ) : Type 0 where
  pub is : r ≡ n
  pub low : r < 65536

-- 6, where so many cells are fewer than the form's
abbrev pub length_refusal : model.Form → ℕ → Option ℕ
length_refusal F cells = first_refusal ((ltb cells (model.store_cells F) gives 6) ∷ [])

-- whether there can be such a log: a plan has at most 16 processes and 64 channels
abbrev pub possible : Log → Bool
possible (message_log p) = nat_lt p process_limit
possible (channel_log c) = nat_lt c channel_limit

-- whether a log of the store's line is in the store with all of its places, and has no more entries than these
unfoldable pub whole : model.Form → List ℕ → Log → Bool
whole F store log =
    possible log
    && (nat_lt (count_cell F (stored_line store) log + entry_cells F log * places log) (length store)
    && nat_le (cell store (count_cell F (stored_line store) log)) (places log))

-- What is read of process p, which is late or not, and of channel c, in any store: where their log is whole, what a
-- restart by the form's rules gives them if they are planned; 0 and nothing where it isn't. In a store that a restart
-- takes, every planned log is whole (proofs/Whole.antt).
abbrev pub word_read : model.Form → Bool → List ℕ → ℕ → ℕ
word_read F late store p = cond (whole F store (message_log p)) (restored F late store (stored_line store) p) 0

abbrev pub channel_read : model.Form → List ℕ → ℕ → List Entry
channel_read F store c =
    cond (whole F store (channel_log c)) (messages false (logged F store (stored_line store) c)) []

-- the record of a process that begins in the cell `at` is in the store, and its log within its places
pub record Lies (F : model.Form) (store : List ℕ) (at : ℕ) : Type 0 where
  pub inside : at + model.process_cells F ≤ length store
  pub count : cell store (at + 1) ≤ message_places

-- the receipts in the message log of the process whose record begins in the cell `at`, and its word
abbrev pub receipts_at : model.Form → List ℕ → ℕ → List Receipt
receipts_at F store at = map receipt_in (entries_from store F.message_cells (at + 1) (cell store (at + 1)))

abbrev pub word_at : model.Form → Bool → List ℕ → ℕ → ℕ
word_at F late store at = restore F late (cell store at) (receipts_at F store at)

-- the bodies of the channel log whose count stands in the cell `at`
abbrev pub bodies_at : List ℕ → ℕ → List ℕ
bodies_at store at = map body_in (entries_from store channel_entry_cells at (cell store at))
