use Rattle.std.proofs.Common.{arith}
use Rattle.reduction.proofs.Passing.{found}
use Rattle.reduction.proofs.search.Search.singles.Goals as goal

-- where the last pass left none out, none can be
pub returns : goal.returns
returns c =
    let inv = c.loop-part.invariant in found inv.failing (inv.lost (omega (arith, inv.fewer)))
