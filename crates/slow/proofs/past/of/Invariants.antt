-- The loop of `past::of`: the first i calls have their deeds.
use Rattle.std.proofs.Common.{◌≡◌, ℕ, ◌<◌, get_or, length}
use Rattle.slow.specs.Kept.{nothing, deed_for}
use Rattle.slow.proofs.past.of.Given as goal

abbrev pub invariant-loop-i : goal.invariant-loop-i
invariant-loop-i l = record {
  places : length l.deeds ≡ 256;
  told : (k : ℕ) → k < l.i → get_or l.deeds k nothing ≡ deed_for l.calls l.answers k;
}
