-- The loop of `destination::copy`: the first i bodies are written.
use Rattle.migration.proofs.Copying.{Copied}
use Rattle.migration.proofs.destination.copy.Given as goal

abbrev pub invariant-loop-i : goal.invariant-loop-i
invariant-loop-i l = Copied l.source l.from l.initial.target l.to l.target l.i
