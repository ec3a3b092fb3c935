-- The loop's invariant: what is listed, and then what the bytes left hold, is what all of the bytes hold.
use Rattle.std.proofs.Common.{length}
use Rattle.operator.proofs.Listing.{Listing}
use Rattle.operator.proofs.list.read.Given as goal

abbrev pub invariant-loop-left : goal.invariant-loop-left
invariant-loop-left l = Listing l.fn.bytes l.list l.left

abbrev pub decreases-loop-left : goal.decreases-loop-left
decreases-loop-left l = length l.left
