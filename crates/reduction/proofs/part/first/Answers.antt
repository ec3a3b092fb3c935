use Rattle.std.proofs.Common.{◌≡◌, refl, sym, arith}
use Rattle.model.specs.Notation.{tabulate}
use Rattle.reduction.proofs.Parts.{numbers, numbers_length, numbers_more, places_all}
use Rattle.reduction.proofs.part.first.Goals as goal

pub loop-i-init : goal.loop-i-init
unfolding tabulate
loop-i-init c = refl

pub loop-i-preserved : goal.loop-i-preserved
loop-i-preserved c = rw c.loop-i.invariant (numbers_more c.loop-i.i (omega arith))

pub returns : goal.returns
returns c =
    let end : c.loop-i.i ≡ c.args.n = omega arith in
    places_all (numbers c.args.n) (rw end at c.loop-i.invariant) (sym (numbers_length c.args.n))
