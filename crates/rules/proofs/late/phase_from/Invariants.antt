-- The loop of `rules::late::phase_from`: every process that it has passed over is late.
use Rattle.std.proofs.Common.{◌≡◌, ℕ, ◌<◌, ◌≤◌, true}
use Rattle.model.specs.Notation.{bit_of}
use Rattle.rules.proofs.late.phase_from.Given as goal

abbrev pub invariant-loop-p : goal.invariant-loop-p
invariant-loop-p l = (q : ℕ) → l.from ≤ q → q < l.p → bit_of l.late q ≡ true
