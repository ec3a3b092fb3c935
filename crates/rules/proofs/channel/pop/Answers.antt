-- `rules::channel::pop`: each turn moves what stands at i + 1 to i; past the arrays nothing stands.
use Rattle.std.proofs.Common.{◌≡◌, ℕ, ◌+◌, ◌<◌, ◌≤◌, ltb, length, get_or, sym, refl, ap, ◌∙◌, arith, rules}
use Rattle.std.proofs.Common.{ltb-false, ltb-true, length-set}
use Rattle.model.specs.declared.Channel.{Channel}
use Rattle.model.specs.Notation.{tabulate}
use Rattle.model.specs.Channel.{array_places, entry_of, entry_at, entries}
use Rattle.model.specs.State.{no_places}
use Rattle.model.proofs.laws.Functions.{Indices, indices, same, other, seen_replicate}
use Rattle.model.proofs.laws.Tests.{Tested, holds, fails, test}
use Rattle.model.proofs.laws.ChannelLaws.{written, at_written, at_other, at_past, entries_rest}
use Rattle.rules.proofs.channel.pop.Goals as goal

-- r holds below i what stands one place further on in c, and nothing from i on
module _ (c r : Channel) (i : ℕ) (below : (j : ℕ) → j < i → entry_at r j ≡ entry_at c (j + 1)) where
  moved : i < length r.kinds → i < length r.bodies → (j : ℕ) → j < i + 1
      → entry_at (written r i (get_or c.kinds (i + 1) 0) (get_or c.bodies (i + 1) 0)) j ≡ entry_at c (j + 1)
  moved lk lb j l = go (indices j i)
    where
      go : Indices j i
          → entry_at (written r i (get_or c.kinds (i + 1) 0) (get_or c.bodies (i + 1) 0)) j ≡ entry_at c (j + 1)
      go (same e) = rw e (at_written r i _ _ lk lb)
      go (other n) = at_other r i j _ _ n ∙ below j (omega (arith, n))

  all_moved : length c.kinds ≤ i + 1 → length c.bodies ≤ i + 1 → ((j : ℕ) → i ≤ j → entry_at r j ≡ entry_of 0 0)
      → (j : ℕ) → entry_at r j ≡ entry_at c (j + 1)
  all_moved lk lb above j = go (test (ltb j i))
    where
      go : Tested (ltb j i) → entry_at r j ≡ entry_at c (j + 1)
      go (holds t) = below j (ltb-true j i t)
      go (fails t) =
          let past : i ≤ j = ltb-false j i t in above j past ∙ sym (at_past c (j + 1) (omega arith) (omega arith))

pub returns-then-c-eq0 : goal.returns-then-c-eq0
unfolding entries tabulate
returns-then-c-eq0 c = rw c.if-c-eq0.true

pub loop-i-init : goal.loop-i-init
unfolding no_places
loop-i-init c =
    rw c.empty-r.ensures (record {
      kinds = refl;
      bodies = refl;
      shorter = refl;
      below = λ j l. absurd (omega arith);
      above = λ j l. ap (λ (f : ℕ → ℕ). entry_of (f j) (f j)) (seen_replicate array_places 0);
    })

pub loop-i-preserved : goal.loop-i-preserved
loop-i-preserved c =
    let l = c.loop-i in
    let i = l.invariant in
    record {
      kinds = simp length-set i.kinds;
      bodies = simp length-set i.bodies;
      shorter = i.shorter;
      below = moved c.args.c l.r l.i i.below (omega arith) (omega arith);
      above = λ j k. at_other l.r l.i j _ _ (λ e. omega arith) ∙ i.above j (omega arith);
    }

pub returns : goal.returns
returns c =
    let l = c.loop-i in
    let from = c.args.c in
    let kinds : length from.kinds ≡ array_places = search rules in
    let places : length from.bodies ≡ array_places = search rules in
    entries_rest from (omega arith) l.r l.invariant.shorter
    (λ j k. all_moved from l.r l.i l.invariant.below (omega arith) (omega arith) l.invariant.above j)
