-- Which bytes matter. The theorems are proofs/TakenBytes.antt.
use Rattle.std.specs.Prelude.{ℕ, ◌≡◌, List, ◌∷◌, take}
use Rattle.model.specs.Program.{input_bytes}
use Rattle.operator.specs.Console.{bytes_taken, reduction_asked, reduction, console}
use Rattle.operator.specs.File.{file}

-- what the programs read of standard input is enough: no byte past it is looked at
pub record Enough (input : List ℕ) : Type 0 where
  pub console_same : console (take bytes_taken input) ≡ console input
  pub file_same : file (take bytes_taken input) ≡ file input

abbrev pub TakenBytes : Type 0
TakenBytes = (input : List ℕ) → Enough input

-- every input of `head` can be asked about, up to the last byte that `head` takes
abbrev pub HeadAsked : Type 0
HeadAsked = (bytes : List ℕ) → console (reduction_asked ∷ bytes) ≡ reduction (take input_bytes bytes)
