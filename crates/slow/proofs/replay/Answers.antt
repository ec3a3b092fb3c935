use Rattle.std.proofs.Common.{◌≡◌, ◌∙◌, refl, sym, arith, length}
use Rattle.std.proofs.lemmas.List.{length-take-le}
use Rattle.std.proofs.Math.Option.{none}
use Rattle.model.specs.Outcome.{refusal_of}
use Rattle.model.specs.Reduction.{list_refusal}
use Rattle.slow.proofs.Listing.{by_topology, runs}
use Rattle.slow.proofs.replay.Goals as goal

pub returns : goal.returns
unfolding refusal_of
returns c =
    let a = c.args in
    let passes : list_refusal a.topology a.list.now ≡ none =
    by_topology a.topology a.list.now c.if-list-gt-LISTED.false ∙ sym c.check.ensures ∙ rw c.in_ok-check.was in
    let told = c.answers-answers in
    let long = length-take-le (length a.list.now) told.result (omega (arith, told.ensures.places)) in
    record { replays = rw passes (runs refl told.ensures (rw long at c.after-state.ensures)) }
