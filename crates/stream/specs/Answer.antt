-- What a program does that takes the first bytes of its input and prints an answer to them.
use Rattle.std.specs.Prelude.{◌≡◌, ℕ, List, take, drop, Some, IfSome}
use Rattle.std.specs.declared.option.Option.{Option}
use Rattle.std.specs.Io.KnownBytes.{Appends}

-- The first so many bytes are taken, or all where there are fewer, and the others are left.
abbrev pub Takes : ℕ → Option (List ℕ) → Option (List ℕ) → Type 0
Takes most before after = IfSome before (λ bytes. after ≡ Some (drop most bytes))

-- A text that is right for the first so many bytes of the input comes after what was printed before, and nothing else.
abbrev pub Prints : ℕ → (List ℕ → List ℕ → Type 0) → Option (List ℕ) → Option (List ℕ) → Option (List ℕ) → Type 0
Prints most Right input before after =
    IfSome input (λ bytes. (text : List ℕ) × Right (take most bytes) text × Appends before after text)
