-- What a function that writes text into a lent buffer promises, for any buffer and any position in it.
use Rattle.std.specs.Borrow.{MutBor}
use Rattle.std.specs.Prelude.{ℕ, ◌+◌, ◌*◌, ◌-◌, ◌<◌, ◌≤◌, min, ◌≡◌, List, [], ◌∷◌, ◌++◌, length, take, drop}
use Rattle.std.proofs.Math.Seq.{paste}
use Rattle.model.specs.Notation.{concat_below}
use Rattle.report.specs.Text.{chars, decimal, values}
use Rattle.report.specs.TextBytes.{said_bytes, line_bytes}

-- how much of the text fits between the position and the buffer's end: none where the position is past it
unfoldable pub fitting : List ℕ → ℕ → List ℕ → ℕ
fitting buffer at text = min (length text) (length buffer - at)

-- The buffer after holds what fits of the text from the position on, and is otherwise as before; r is the position
-- after what was written. The text has at most so many bytes: where that many fit, it is whole.
pub record Appends (most : ℕ) (before : List ℕ) (at : ℕ) (text after : List ℕ) (r : ℕ) : Type 0 where
  pub short : length text ≤ most
  pub buffer : after ≡ paste before at text (fitting before at text)
  pub next : r ≡ at + fitting before at text

-- A function may be called at each number below n; and where its call for a number appends the text of that number, of
-- at most so many bytes, the texts of all numbers below n are appended.
abbrev pub CallableBelow : (MutBor (List ℕ) → ℕ → ℕ → Type 0) → ℕ → Type 0
CallableBelow pre n = (b : MutBor (List ℕ)) (at i : ℕ) → i < n → pre b at i

abbrev pub PrintsEach : (MutBor (List ℕ) → ℕ → ℕ → ℕ → MutBor (List ℕ) → Type 0) → ℕ → List ℕ → ℕ → List ℕ → ℕ
    → Type 0
PrintsEach post n before at after r =
    (most : ℕ) (text : ℕ → List ℕ)
    → ((i : ℕ) → i < n → (b a : MutBor (List ℕ)) (k s : ℕ) → post b k i s a → Appends most b.now k (text i) a.now s)
    → Appends (n * most) before at (concat_below n text) after r

-- where a function's call appends a text, no longer than what is said can be, a request's line with it is appended
abbrev pub PrintsLine : (MutBor (List ℕ) → ℕ → ℕ → MutBor (List ℕ) → Type 0) → ℕ → ℕ → List ℕ → ℕ → List ℕ → ℕ
    → Type 0
PrintsLine post number made before at after r =
    (text : List ℕ)
    → ((b a : MutBor (List ℕ)) (k s : ℕ) → post b k s a → Appends said_bytes b.now k text a.now s)
    → Appends line_bytes before at (decimal number ++ chars " " ++ text ++ values (made ∷ []) ++ chars "\n") after r

-- The first r bytes of the buffer are the whole text, and the others are as before.
pub record WholeText (whole before after : List ℕ) (r : ℕ) : Type 0 where
  pub count : r ≡ length whole
  pub text : take r after ≡ whole
  pub rest : drop r after ≡ drop r before
