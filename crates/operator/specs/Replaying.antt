-- What the functions behind question 4 print of the slow engine's answers.
use Rattle.std.specs.Prelude.{ℕ, ◌+◌, List, [], ◌∷◌, get_or, Result, Ok, Err}
use Rattle.model.specs.declared.Refusal.{Refusal}
use Rattle.model.specs.Notation.{concat_below}
use Rattle.model.specs.Outcome.{refusal_number, refused}
use Rattle.model.specs.Program.{Line}
use Rattle.report.specs.Text.{said_line}
use Rattle.slow.specs.declared.CallAnswer.{CallAnswer}
use Rattle.slow.specs.Replays.{call_said, unanswered}

-- line n, of an answer
abbrev pub answer_line : ℕ → CallAnswer → List ℕ
answer_line n a = said_line n (call_said a.outcome) a.made

-- the lines of the first n answers, from line 1 on
abbrev pub answer_lines : ℕ → List CallAnswer → List ℕ
answer_lines n answers = concat_below n (λ i. answer_line (i + 1) (get_or answers i unanswered))

-- the line where the bytes break off, by how their reading ends
abbrev pub end_line : Result (Unit {0}) Refusal → ℕ → List Line
end_line (Ok x) n = []
end_line (Err r) n = record { number = n; said = refused (refusal_number r); made = 0 } ∷ []
