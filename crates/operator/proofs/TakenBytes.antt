-- Which bytes matter: those that are taken, and all that `head` takes after the one that asks.
use Prim.Native.Nat.{ℕ}
use mathlib.Core.Path.{◌≡◌, refl}
use mathlib.Core.List.{List, [], ◌∷◌}
use lib.ListN.{take, length-take}
use lib.Seq.{take_all}
use native.Mathlib.Omega.{arith}
use Rattle.model.specs.Program.{input_bytes}
use Rattle.operator.specs.Console.{bytes_taken, asked_in, taken_in, answer_to, console}
use Rattle.operator.specs.File.{file}
use Rattle.operator.specs.TakenBytes.{TakenBytes, HeadAsked}

asked_same : (input : List ℕ) → asked_in (take bytes_taken input) ≡ asked_in input
unfolding asked_in
asked_same [] = refl
asked_same (b ∷ bytes) = refl

taken_same : (input : List ℕ) → taken_in (take bytes_taken input) ≡ taken_in input
unfolding taken_in
taken_same [] = refl
taken_same (b ∷ bytes) = take_all input_bytes (take input_bytes bytes) (rw length-take (omega arith))

pub taken_bytes : TakenBytes
unfolding console file
taken_bytes input =
    record {
      console_same = rw (asked_same input, taken_same input);
      file_same = rw (asked_same input, taken_same input);
    }

pub head_asked : HeadAsked
unfolding console asked_in taken_in answer_to
head_asked bytes = refl
