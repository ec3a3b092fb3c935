-- Document 02, M-101, in the place of document 01's rule: "A take now makes the word 31 × (31 × word + wire) + body,
-- modulo 2^32." What a take brings, wire and body, is a receipt.
use Rattle.std.specs.Prelude.{ℕ, ◌+◌, ◌-◌, ◌*◌, ◌%◌, List, [], ◌∷◌}
use Rattle.model.specs.declared.Receipt.{Receipt}

-- a body from channel c
abbrev pub receipt : ℕ → ℕ → Receipt
receipt c body = record { channel = c; body = body }

abbrev pub enter : ℕ → Receipt → ℕ
enter word r = (31 * (31 * word + r.channel) + r.body) % 4294967296

-- what the receipts, in order, make of a word by a rule, and by this one
unfoldable pub replay_by : (ℕ → Receipt → ℕ) → ℕ → List Receipt → ℕ
replay_by rule word [] = word
replay_by rule word (r ∷ rs) = replay_by rule (rule word r) rs

abbrev pub replay : ℕ → List Receipt → ℕ
replay word rs = replay_by enter word rs

-- Document 02, M-105, of anti-messages: "Restart undoes these in reverse order on the copy, using 3,186,588,639, which
-- times 31 is 1 modulo 2^32." x less y, and that number times x, modulo 2^32:
abbrev pub minus : ℕ → ℕ → ℕ
minus x y = (x + (4294967296 - y % 4294967296)) % 4294967296

abbrev pub over_thirty_one : ℕ → ℕ
over_thirty_one x = 3186588639 * x % 4294967296

-- what a word was before the receipt entered it; an anti-message is a receipt to be undone so (Undone.antt)
unfoldable pub leave : ℕ → Receipt → ℕ
leave word r = over_thirty_one (minus (over_thirty_one (minus word r.body)) r.channel)

-- what a word was before these receipts entered it, by a rule for leaving: "in reverse order", the last one first
unfoldable pub undo_by : (ℕ → Receipt → ℕ) → ℕ → List Receipt → ℕ
undo_by rule word [] = word
undo_by rule word (r ∷ rs) = rule (undo_by rule word rs) r
