-- Document 01, "Records and the program": the text of each line that `head` and `drill` print, as the codes of its
-- characters.
use Rattle.std.specs.Prelude.{ℕ, zero, suc, ◌+◌, ◌/◌, ◌%◌, cond, List, [], ◌∷◌, ◌++◌, length, get_or, ltb}
use Prim.Native.Char.{code}
use Prim.Native.String.{String, [] as []ˢ, ◌∷◌ as ◌∷ˢ◌}
use Rattle.model.specs.Notation.{concat_below}
use Rattle.model.specs.Outcome.{Said, done, sent, took, note, line, refused, cut, said_values}
use Rattle.model.specs.Program.{Line, Output, plan_refused, ran, head}

-- the codes of a text's characters
abbrev pub chars : String → List ℕ
chars []ˢ = []
chars (c ∷ˢ cs) = code c ∷ chars cs

-- the character of a digit
abbrev pub digit : ℕ → List ℕ
digit d = (code "0" + d) ∷ []

-- the decimal digits of a number, the most significant first. fuel: at least their number. A `let` is computed only
-- where it is asked for.
unfoldable pub digits : ℕ → ℕ → List ℕ
digits zero n = []
digits (suc fuel) n = let others = digits fuel (n / 10) in cond (ltb n 10) [] others ++ digit (n % 10)

-- a number in decimal, "0" for 0
unfoldable pub decimal : ℕ → List ℕ
decimal n = digits (suc n) n

-- numbers, each after a space
unfoldable pub values : List ℕ → List ℕ
values [] = []
values (v ∷ vs) = chars " " ++ decimal v ++ values vs

-- "Outcomes: `done`; `took` and body; `note`; `line` and its number for a restart; `refused` and number"; document 02,
-- M-104: "The program prints `sent`, that count". `drill` alone has `cut`, for a step whose power was lost.
unfoldable pub said_name : Said → String
said_name done = "done"
said_name (sent room) = "sent"
said_name (took body) = "took"
said_name note = "note"
said_name (line k) = "line"
said_name (refused n) = "refused"
said_name cut = "cut"

unfoldable pub said_text : Said → List ℕ
said_text s = chars (said_name s) ++ values (said_values s)

-- "Each line has step number, outcome, stores made."
unfoldable pub line_text : Line → List ℕ
line_text l = decimal l.number ++ chars " " ++ said_text l.said ++ values (l.made ∷ []) ++ chars "\n"

-- line n, with what is said in it and the stores made
abbrev pub said_line : ℕ → Said → ℕ → List ℕ
said_line n s made = line_text (record { number = n; said = s; made = made })

-- a line that opens with a name
abbrev pub named : List ℕ → List ℕ → List ℕ
named name vs = name ++ values vs ++ chars "\n"

-- "It prints `plan refused n` and stops"
abbrev pub plan_refused_text : ℕ → List ℕ
plan_refused_text n = named (chars "plan refused") (n ∷ [])

-- "each board with its word"
abbrev pub process_text : ℕ → ℕ → List ℕ
process_text p word = named (chars "board") (p ∷ word ∷ [])

-- "each wire with its message count and bodies"
abbrev pub channel_text : ℕ → List ℕ → List ℕ
channel_text c bodies = named (chars "wire") (c ∷ length bodies ∷ bodies)

-- `drill` alone: a cell of the store that differs from its starting value
abbrev pub cell_text : ℕ → ℕ → List ℕ
cell_text i value = named (chars "cell") (i ∷ value ∷ [])

unfoldable pub lines_text : List Line → List ℕ
lines_text [] = []
lines_text (l ∷ ls) = line_text l ++ lines_text ls

-- The whole output of `head`: a line for each record. "Last come each board with its word, and each wire with its
-- message count and bodies."
unfoldable pub output_text : Output → List ℕ
output_text (plan_refused n) = plan_refused_text n
output_text (ran lines words channels) =
    lines_text lines
    ++ concat_below (length words) (λ p. process_text p (get_or words p 0))
    ++ concat_below (length channels) (λ c. channel_text c (get_or channels c []))

-- what `head` prints, from the bytes of its input to those of its output
unfoldable pub head_text : List ℕ → List ℕ
head_text input = output_text (head input)
