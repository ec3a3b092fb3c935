-- The old form of the store, document 01's before M-101: an entry of a board log is a body, which makes "the word 31 ×
-- word + body, modulo 2^32". Document 02, M-105, of anti-messages: "M-102's old form holds none: its logs are replayed
-- as before."
use Rattle.std.specs.Prelude.{◌≡◌, ℕ, ◌+◌, ◌*◌, ◌%◌, [], ◌∷◌}
use Rattle.std.proofs.Math.Option.{none}
use Rattle.model.specs.declared.Receipt.{Receipt}
use Rattle.model.specs.Form.{Form, numbers}

abbrev pub old_enter : ℕ → Receipt → ℕ
old_enter word r = (31 * word + r.body) % 4294967296

abbrev pub old : Form
old = record { message_cells = 1; enter = old_enter; leave = none }

-- document 01's numbers: records of 66 cells, wires at 1,056 in the half, halves of 1,632 and 3,265 in all
abbrev pub OldNumbers : Type 0
OldNumbers = numbers old ≡ 66 ∷ 1056 ∷ 1632 ∷ 3265 ∷ []
