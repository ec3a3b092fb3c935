use Rattle.plan.proofs.Plans.{Ends}
use Rattle.plan.proofs.ends.Given as goal

abbrev pub invariant-loop-c : goal.invariant-loop-c
invariant-loop-c l = Ends l.bytes l.first l.r l.c
