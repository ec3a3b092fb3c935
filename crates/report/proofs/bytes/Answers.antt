use Rattle.std.proofs.Common.{rules, arith}
use Rattle.report.proofs.Appending.{copied, past_end}
use Rattle.report.proofs.bytes.Goals as goal

pub returns-then-out-at : goal.returns-then-out-at
returns-then-out-at c = past_end _ _ _ (omega arith)

pub returns : goal.returns
returns c =
    copied c.args.out.now c.args.at c.args.text.now c.copy_from_slice.new.self c.min-fits.result (omega arith)
    (omega arith) (search rules)
