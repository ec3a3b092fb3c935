-- The lines that `console` prints for a reduced list of calls, as the codes of their characters.
use Rattle.std.specs.Prelude.{ℕ, ◌+◌, ◌-◌, ◌/◌, ◌%◌, cond, List, [], ◌∷◌, ◌++◌, ltb}
use Prim.Native.Char.{code}
use Rattle.report.specs.Text.{chars, decimal, named}

-- the character of a hexadecimal digit: 0 to 9, and A to F
unfoldable pub hex_digit : ℕ → ℕ
hex_digit d = cond (ltb d 10) (code "0" + d) (code "A" + (d - 10))

abbrev pub hex_byte : ℕ → List ℕ
hex_byte b = hex_digit (b / 16) ∷ hex_digit (b % 16) ∷ []

-- bytes, each after a space
unfoldable pub spaced_bytes : List ℕ → List ℕ
spaced_bytes [] = []
spaced_bytes (b ∷ bs) = chars " " ++ hex_byte b ++ spaced_bytes bs

-- bytes in upper-case hexadecimal, with one space between
unfoldable pub hex_bytes : List ℕ → List ℕ
hex_bytes [] = []
hex_bytes (b ∷ bs) = hex_byte b ++ spaced_bytes bs

-- the first line: the plan's bytes
abbrev pub plan_line_text : List ℕ → List ℕ
plan_line_text bytes = hex_bytes bytes ++ chars "\n"

-- what the line of a call opens with
abbrev pub call_text : List ℕ → ℕ → List ℕ
call_text bytes number = hex_bytes bytes ++ chars " # " ++ decimal number

-- a line for each kept call with its bytes, ` # ` and its number in the list
abbrev pub kept_text : List ℕ → ℕ → List ℕ
kept_text bytes number = call_text bytes number ++ chars "\n"

-- document 02, M-104: after a kept send's, "`sent`, that count"
abbrev pub sent_text : List ℕ → ℕ → ℕ → List ℕ
sent_text bytes number room = call_text bytes number ++ named (chars " sent") (room ∷ [])

-- on the last one ` refused ` and the number of the refusal
abbrev pub last_text : List ℕ → ℕ → ℕ → List ℕ
last_text bytes number n = call_text bytes number ++ named (chars " refused") (n ∷ [])

-- one line alone, such as `refused 17`
abbrev pub refused_text : ℕ → List ℕ
refused_text n = named (chars "refused") (n ∷ [])
