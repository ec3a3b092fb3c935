-- What the functions behind `console` promise.
use Rattle.std.specs.Prelude.{ℕ, ◌≡◌, List, Result, Ok, Err}
use Rattle.report.specs.Appends.{Appends}
use Rattle.operator.specs.declared.refused.Refused.{Refused}
use Rattle.operator.specs.ConsoleAnswer.{ConsoleAnswer, PartIn, refused_in}
use Rattle.operator.specs.ConsoleText.{console_text, console_bytes}

-- the text of an answer, with a part that may stand in it, from the buffer's start on
pub record PrintsAnswer (x : ConsoleAnswer) (before after : List ℕ) (r : ℕ) : Type 0 where
  pub part : List ℕ
  pub allowed : PartIn x part
  pub text : Appends console_bytes before 0 (console_text x part) after r

-- that, or a refusal that is the answer, with the buffer as it was
abbrev pub Answered : ConsoleAnswer → List ℕ → List ℕ → Result ℕ Refused → Type 0
Answered x before after (Ok n) = PrintsAnswer x before after n
Answered x before after (Err r) = (after ≡ before) × (x ≡ refused_in r)
