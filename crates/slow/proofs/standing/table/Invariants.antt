use Rattle.std.proofs.Common.{◌≡◌, ◌<◌, ◌≤◌, ℕ, get_or}
use Rattle.slow.proofs.standing.table.Given as goal

abbrev pub invariant-loop-i : goal.invariant-loop-i
invariant-loop-i g l = record {
  told : (z : _) (i : ℕ) → i < l.i → goal.F-post g l.f i (get_or l.cells i z);
  other : (z : _) (i : ℕ) → l.i ≤ i → get_or l.cells i z ≡ get_or l.initial.cells i z;
}
