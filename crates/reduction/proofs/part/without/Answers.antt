use Rattle.std.proofs.Common.{◌≡◌, ℕ, ◌-◌, ◌<◌, ◌≤◌, ◌∙◌, List, length, get_or, sym, arith}
use Rattle.std.proofs.lemmas.List.{take_all}
use Rattle.reduction.specs.Parts.{kept, Held, without_block}
use Rattle.reduction.specs.declared.part.Part.{Part}
use Rattle.reduction.proofs.Parts.{kept_length, kept_at, past_within, without_length, without_at, places_more}
use Rattle.reduction.proofs.Parts.{places_all}
use Rattle.reduction.proofs.part.without.Goals as goal

-- without the block there are as many fewer places
rest_length : {part : Part} (from to : ℕ) → Held part → from ≤ to → to ≤ part.count
    → length (without_block from to (kept part)) ≡ part.count - (to - from)
rest_length {part} from to held h k =
    without_length (kept part) from to h (rw (kept_length held) k) ∙ rw (kept_length held)

pub loop-i-preserved : goal.loop-i-preserved
loop-i-preserved c =
    let (h, k, held) = c.requires in
    let from = c.args.from in
    let to = c.args.to in
    let i = c.loop-i.i in
    let rest : List ℕ = without_block from to (kept c.args.part) in
    let size : length rest ≡ c.args.part.count - (to - from) = rest_length from to held h k in
    let inside : c.past.result < c.args.part.count =
    rw c.past.ensures (past_within from (to - from) c.args.part.count i c.loop-i-test.true) in
    let here : get_or c.args.part.places c.past.result 0 ≡ get_or rest i 0 =
    sym (without_at (kept c.args.part) from to h (rw (kept_length held) k) i
    ∙ rw (← c.past.ensures) (kept_at held _ inside)) in
    rw (c.loop-i.invariant, here) (places_more rest i (rw size c.loop-i-test.true) (omega (arith, size, held.within)))

pub returns : goal.returns
returns c =
    let (h, k, held) = c.requires in
    let rest : List ℕ = without_block c.args.from c.args.to (kept c.args.part) in
    let size = rest_length c.args.from c.args.to held h k in
    places_all rest (rw (take_all c.loop-i.i rest (rw size c.loop-i-test.false)) at c.loop-i.invariant) (sym size)
