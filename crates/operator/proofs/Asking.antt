-- Laws of what is asked: the answer to a question, and where the buffer is long enough, that it holds it.
use Rattle.std.proofs.Common.{◌≡◌, ℕ, ◌≤◌, List, length, sym, ap, ◌∙◌}
use Rattle.std.specs.Prelude.{Option, Some}
use Rattle.report.proofs.Printing.{whole_text}
use Rattle.operator.specs.declared.Question.{Question}
use Rattle.operator.specs.Console.{asked_in, taken_in, answer_to, console}
use Rattle.operator.specs.ConsoleText.{console_bytes, Tells}
use Rattle.operator.specs.File.{file_to, file}
use Rattle.operator.specs.Printing.{PrintsAnswer}

-- a question that is known
module _ (input : List ℕ) {bytes : List ℕ} {x : Option Question} {p q : Question} (a : x ≡ asked_in input)
    (known : x ≡ Some p) (e : p ≡ q) (b : bytes ≡ taken_in input) where
  pub asks : console input ≡ answer_to (Some q) bytes
  unfolding console
  asks = rw (sym a ∙ (known ∙ ap Some e), ← b)

  pub asks_file : file input ≡ file_to (Some q) bytes
  unfolding file
  asks_file = rw (sym a ∙ (known ∙ ap Some e), ← b)

-- where the buffer is long enough, it holds the whole of an answer
pub tells : (input : List ℕ) {before after : List ℕ} {r : ℕ} → console_bytes ≤ length before
    → PrintsAnswer (console input) before after r → Tells input before after r
tells input l p = record { part = p.part; allowed = p.allowed; text = whole_text p.text l }
