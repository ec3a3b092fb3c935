use Rattle.std.proofs.Common.{◌≡◌, arith}
use Rattle.report.proofs.Printing.{none_of, one_more}
use Rattle.report.proofs.each.Goals as goal

pub loop-i-init : goal.loop-i-init
loop-i-init g c = λ most text writes. none_of most text

pub loop-i-preserved : goal.loop-i-preserved
loop-i-preserved g c =
    λ most text writes.
    let i = c.loop-i.i in
    one_more most text i (c.loop-i.invariant most text (λ k l. writes k (omega arith)))
    (writes i (omega arith) _ _ _ _ c.text-next.ensures)

pub returns : goal.returns
returns g c = let all : c.loop-i.i ≡ c.args.n = omega arith in rw all at c.loop-i.invariant
