-- What the program `console` may print for the bytes that it takes.
use Rattle.std.specs.Prelude.{◌≡◌, ℕ, List}
use Rattle.operator.specs.Console.{console}
use Rattle.operator.specs.ConsoleAnswer.{PartIn}
use Rattle.operator.specs.ConsoleText.{console_text}

-- the line or the lines of its answer, and of a reduction any smallest part's
abbrev pub IsAnswer : List ℕ → List ℕ → Type 0
IsAnswer input text = (part : List ℕ) × PartIn (console input) part × (text ≡ console_text (console input) part)
