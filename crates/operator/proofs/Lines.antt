-- Laws of an answer that has no part: a refusal's line alone; and `done`, with what is shown of the target.
use Rattle.std.proofs.Common.{◌≡◌, ℕ, ◌+◌, List, [], refl, arith}
use Rattle.report.specs.Appends.{Appends}
use Rattle.report.specs.TextBytes.{plan_refused_bytes}
use Rattle.report.proofs.Appending.{at_most, ◌then◌}
use Rattle.operator.specs.declared.refused.Refused.{Refused}
use Rattle.operator.specs.declared.refused.Refused.TheVariants.{Plan, Other}
use Rattle.operator.specs.ConsoleAnswer.{carried, refused_in}
use Rattle.operator.specs.ConsoleText.{answer_text, line_of, done_bytes, done_text}
use Rattle.operator.specs.Printing.{PrintsAnswer}

pub refusal_told : (x : Refused) {before after : List ℕ} {r : ℕ}
    → Appends plan_refused_bytes before 0 (line_of (refused_in x)) after r → PrintsAnswer (refused_in x) before after r
unfolding answer_text
refusal_told (Plan n) t = record { part = []; allowed = refl; text = at_most t (omega arith) }
refusal_told (Other n) t = record { part = []; allowed = refl; text = at_most t (omega arith) }

-- it is the whole answer, however a target would be shown
pub line_alone : (x : Refused) (shown : List ℕ → List ℕ) → answer_text shown (refused_in x) [] ≡ line_of (refused_in x)
unfolding answer_text
line_alone (Plan n) shown = refl
line_alone (Other n) shown = refl

pub target_told : (shown : List ℕ → List ℕ) (last : List ℕ) {before middle after : List ℕ} {most at r : ℕ}
    → Appends done_bytes before 0 done_text middle at → Appends most middle at (shown last) after r
    → Appends (done_bytes + most) before 0 (answer_text shown (carried last) []) after r
unfolding answer_text
target_told shown last done cells = done then cells
