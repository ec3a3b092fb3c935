-- What `converter` prints begins with the line of `console`'s answer. That nothing comes after a refusal's line is read
-- off File.antt. The theorem is proofs/SameLine.antt.
use Rattle.std.specs.Prelude.{ℕ, ◌≡◌, List, length, take, Some}
use Rattle.operator.specs.declared.Question.TheVariants.{Carry}
use Rattle.operator.specs.declared.carry.Way.{Way}
use Rattle.operator.specs.Console.{asked_in, console}
use Rattle.operator.specs.ConsoleText.{line_of}
use Rattle.operator.specs.File.{file}

-- of every input that asks for a store to be carried
abbrev pub SameLine : Type 0
SameLine =
    (input : List ℕ) (w : Way) → asked_in input ≡ Some (Carry w)
    → take (length (line_of (console input))) (file input) ≡ line_of (console input)
