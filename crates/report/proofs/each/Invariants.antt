-- The texts of the numbers below i are written.
use Rattle.report.specs.Appends.{PrintsEach}
use Rattle.report.proofs.each.Given as goal

abbrev pub invariant-loop-i : goal.invariant-loop-i
invariant-loop-i g l = PrintsEach (goal.F-post g l.text) l.i l.initial.out l.fn.at l.out l.next
