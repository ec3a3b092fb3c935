use Rattle.std.proofs.Common.{arith}
use Rattle.reduction.proofs.Passing.{part_count, pass_starts, pass_ends, pass_goes_on}
use Rattle.reduction.proofs.search.Search.pass.Goals as goal

pub overflow_sub-to : goal.overflow_sub-to
overflow_sub-to c = omega (arith, part_count c.requires.0)

pub loop-to-init : goal.loop-to-init
loop-to-init c = pass_starts c.requires.0

pub loop-to-smaller : goal.loop-to-smaller
loop-to-smaller c = omega (arith, c.begins-from.ensures, c.requires.1)

pub loop-to-preserved : goal.loop-to-preserved
loop-to-preserved c =
    rw c.begins-from.ensures
    (pass_goes_on c.loop-to.invariant c.loop-to-test.true c.requires.1
    (rw c.begins-from.ensures at c.try_without-part.ensures))

pub returns : goal.returns
returns c = pass_ends c.loop-to.invariant (omega arith)
