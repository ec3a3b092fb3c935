use Rattle.std.proofs.Common.{rules}
use Rattle.model.specs.Outcome.{said_by}
use Rattle.report.specs.Text.{said_text, line_text}
use Rattle.report.proofs.outcome_line.Goals as goal

pub returns : goal.returns
unfolding line_text
returns c = c.request_line.ensures (said_text (said_by c.args.outcome)) (λ b a k s w. search rules)
