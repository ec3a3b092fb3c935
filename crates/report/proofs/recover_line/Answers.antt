use Rattle.std.proofs.Common.{rules, ◌++◌, [], ◌∷◌}
use Rattle.model.specs.Outcome.{said_values}
use Rattle.report.specs.Text.{chars, values, said_name, said_text, line_text}
use Rattle.report.proofs.recover_line.Goals as goal

pub returns : goal.returns
unfolding said_values said_name said_text line_text
returns c = c.request_line.ensures (chars "line" ++ values (c.args.line ∷ [])) (λ b a k s w. search rules)
