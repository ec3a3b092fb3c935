-- the first i calls are answered
use Rattle.slow.specs.SoFar.{AnsweredSoFar}
use Rattle.slow.proofs.answers.Given as goal

abbrev pub invariant-loop-i : goal.invariant-loop-i
invariant-loop-i l = AnsweredSoFar l.topology l.calls l.i l.told
