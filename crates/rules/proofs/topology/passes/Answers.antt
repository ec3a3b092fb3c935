-- `rules::topology::passes`: 1 and 2 first, then 3 and 4 of all channels, then 5 and 19.
use Rattle.std.proofs.Common.{◌≡◌, Bool, true, Result, Ok, Err, is_ok, ◌&&◌, sym, refl, ◌∙◌}
use Rattle.model.specs.declared.Refusal.{Refusal}
use Rattle.model.specs.declared.Topology.{Topology}
use Rattle.model.specs.Notation.{all_below}
use Rattle.model.specs.Check.{accepts}
use Rattle.model.specs.Topology.{size_refusal}
use Rattle.model.specs.Outcome.{refusal_of}
use Rattle.model.specs.Sound.{topology_sound}
use Rattle.model.proofs.laws.Tests.{true_is_not_false}
use Rattle.model.proofs.laws.TopologyLaws.{SizesFit, sizes}
use Rattle.rules.specs.Ends.{joins_two, apart}
use Rattle.rules.proofs.EndsPass.{accepts_none, late_known, in_order}
use Rattle.rules.proofs.topology.passes.Goals as goal
use Rattle.rules.proofs.topology.passes.Goals.{then-is_ok, else-is_ok}

-- what a check of the sizes says: whether it is Ok
told : (r : Result (Unit {0}) Refusal) → accepts (refusal_of r) ≡ is_ok r
unfolding refusal_of accepts
told (Ok x) = refl
told (Err x) = refl

module _ (T : Topology) (r : Result (Unit {0}) Refusal) {ok : Bool} (o : ok ≡ is_ok r)
    (e : refusal_of r ≡ size_refusal T.processes T.channels) where
  asked : accepts (size_refusal T.processes T.channels) ≡ ok
  asked = rw (← e, o) (told r)

  fit : ok ≡ true → SizesFit T.processes T.channels
  fit t = sizes _ _ (accepts_none _ (asked ∙ t))

  in_turn : topology_sound T
      ≡ (ok && ((all_below T.channels (joins_two T) && all_below T.channels (apart T)) && late_known T))
  in_turn = in_order T ∙ rw asked

pub joined-requires : goal.joined-requires
joined-requires c = (fit c.args.t c.sizes.result c.is_ok.ensures.value c.sizes.ensures c.if-is_ok.true).channels

pub distinct-requires : goal.distinct-requires
distinct-requires c =
    elim c.if-is_ok.branch [
      | then-is_ok w ↦
          let s = fit c.args.t c.sizes.result c.is_ok.ensures.value c.sizes.ensures w.if-is_ok.true in
          (s.processes, s.channels, sym w.joined.ensures ∙ sym w.value-is ∙ c.if-joined.true)
      | else-is_ok w ↦ true_is_not_false c.if-joined.true (w.value-is ∙ w.if-is_ok.false)
    ]

pub returns-then-joined : goal.returns-then-joined
returns-then-joined c =
    let is = in_turn c.args.t c.sizes.result c.is_ok.ensures.value c.sizes.ensures in
    elim c.if-is_ok.branch [
      | then-is_ok w ↦
          let all = sym w.joined.ensures ∙ sym w.value-is ∙ c.if-joined.true in
          rw (is, w.if-is_ok.true, all, c.distinct.ensures, c.known.ensures)
      | else-is_ok w ↦ true_is_not_false c.if-joined.true (w.value-is ∙ w.if-is_ok.false)
    ]

pub returns-else-joined : goal.returns-else-joined
returns-else-joined c =
    let is = in_turn c.args.t c.sizes.result c.is_ok.ensures.value c.sizes.ensures in
    elim c.if-is_ok.branch [
      | then-is_ok w ↦ rw (is, w.if-is_ok.true, ← w.joined.ensures, ← w.value-is, c.if-joined.false)
      | else-is_ok w ↦ rw (is, w.value-is, w.if-is_ok.false)
    ]
