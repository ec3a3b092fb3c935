use Rattle.std.proofs.Common.{◌≡◌, [], refl, arith, rules}
use Rattle.std.specs.Prelude.{Ok}
use Rattle.report.specs.Changed.{changed_text}
use Rattle.report.proofs.Appending.{at_most}
use Rattle.operator.proofs.Lines.{target_told}
use Rattle.operator.proofs.carry.show.Goals as goal

-- `done`, and the cells of the target that was filled
pub returns : goal.returns
returns c =
    let carried : c.carry.result ≡ Ok tt = search rules in
    let answer = rw carried at c.carry.ensures in
    rw (← c.fill.ensures, ← answer)
    (record {
      part = [];
      allowed = refl;
      text = at_most (target_told changed_text _ c.done-at.ensures c.changed.ensures) (omega arith);
    })
