use Rattle.std.proofs.Common.{rules, get_or}
use Rattle.report.specs.TextBytes.{process_bytes}
use Rattle.report.specs.Text.{process_text}
use Rattle.report.proofs.ending.processes.Goals as goal

pub returns : goal.returns
returns c =
    c.each.ensures process_bytes (λ p. process_text p (get_or c.args.words.now p 0)) (λ i l b a k s w. search rules)
