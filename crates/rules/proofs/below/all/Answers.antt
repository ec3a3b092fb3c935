-- `rules::below::all`: one more number is tested.
use Rattle.std.proofs.Common.{◌&&◌, refl, ap₂, add-one}
use Rattle.model.specs.Notation.{all_below}
use Rattle.rules.proofs.below.all.Goals as goal

pub loop-i-init : goal.loop-i-init
unfolding all_below
loop-i-init g c = λ f h. refl

pub loop-i-preserved : goal.loop-i-preserved
unfolding all_below
loop-i-preserved g c =
    λ f h.
    let l = c.loop-i in
    let one = h l.i c.test-so.result c.loop-i-test.true c.test-so.ensures in
    rw add-one (ap₂ ◌&&◌ (l.invariant f h) one)
