-- The present form of the store, document 02's M-101, and each name of `Form` at it: "Each board log entry becomes body
-- and wire, stored so, before the count. The board record has 130 cells, the half 2,656 and the store 5,313; wire
-- records start at 2,080 in the half." That these are its numbers is stated in PresentNumbers.antt. Since M-105 the
-- logs of late boards hold anti-messages, in entries of the same kind.
use Rattle.std.specs.Prelude.{ℕ, Bool, List, [], ◌∷◌}
use Rattle.std.proofs.Math.Option.{some}
use Rattle.model.specs.declared.Receipt.{Receipt}
use Rattle.model.specs.Word.{enter, leave}
use Rattle.model.specs.Form as form
pub use Rattle.model.specs.Form.{Log, message_log, channel_log}
unfoldable pub use Rattle.model.specs.Form.{cell, line_cell, message_places, channel_places, places, channel_cells}
unfoldable pub use Rattle.model.specs.Form.{channel_entry_cells, entry_cell, cells_from, entries_from, receipt_in}
unfoldable pub use Rattle.model.specs.Form.{body_in}

abbrev pub message_entry_cells : ℕ
message_entry_cells = 2

abbrev pub present : form.Form
present = record { message_cells = message_entry_cells; enter = enter; leave = some leave }

-- what the cells of an entry hold for a receipt: "body and wire, stored so"
abbrev pub entry_for : Log → Receipt → List ℕ
entry_for (message_log p) r = r.body ∷ r.channel ∷ []
entry_for (channel_log c) r = r.body ∷ []

-- "A lent slice of [5,313] cells of 32 bits; further cells are never touched."
abbrev pub store_cells : ℕ
store_cells = form.store_cells present

abbrev pub slot_cells : ℕ
slot_cells = form.slot_cells present

abbrev pub process_cells : ℕ
process_cells = form.process_cells present

abbrev pub entry_cells : Log → ℕ
entry_cells log = form.entry_cells present log

abbrev pub slot : ℕ → ℕ
slot n = form.slot present n

abbrev pub physical_cell : ℕ → ℕ → ℕ
physical_cell n p = form.physical_cell present n p

abbrev pub count_cell : ℕ → Log → ℕ
count_cell n log = form.count_cell present n log

abbrev pub entries_by : List ℕ → ℕ → Log → ℕ → List (List ℕ)
entries_by store n log k = form.entries_by present store n log k

abbrev pub receipts_by : List ℕ → ℕ → ℕ → ℕ → List Receipt
receipts_by store n p k = form.receipts_by present store n p k

abbrev pub bodies_by : List ℕ → ℕ → ℕ → ℕ → List ℕ
bodies_by store n c k = form.bodies_by present store n c k

abbrev pub restore : Bool → ℕ → List Receipt → ℕ
restore late word rs = form.restore present late word rs

abbrev pub logged : List ℕ → ℕ → ℕ → List ℕ
logged store n c = form.logged present store n c
