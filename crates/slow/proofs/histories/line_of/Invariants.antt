-- The loop of `histories::line_of`: the places of the processes before p are found.
use Rattle.std.proofs.Common.{◌≡◌, ℕ, ◌<◌, get_or, length, None}
use Rattle.std.specs.Option.{unwrap_or}
use Rattle.slow.proofs.histories.line_of.Given as goal

abbrev pub invariant-loop-p : goal.invariant-loop-p
invariant-loop-p l = record {
  places : length l.next ≡ 16;
  found : (q : ℕ) → q < l.p → get_or l.next q 0 ≡ unwrap_or (get_or l.marks q None) (get_or l.lines q 0);
}
