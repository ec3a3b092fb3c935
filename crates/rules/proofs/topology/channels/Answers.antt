-- `rules::topology::channels`: the channel at hand decides, or passes.
use Rattle.std.proofs.Common.{◌≡◌, sym, refl, ap, ◌∙◌, arith, rules}
use mathlib.Core.Option.{some}
use Rattle.model.specs.Outcome.{refusal_of, refusal_number}
use Rattle.model.specs.Notation.{first_below}
use Rattle.model.specs.Topology.{channels_refusal}
use Rattle.model.proofs.laws.Lists.{first_next, first_at}
use Rattle.rules.proofs.topology.channels.Goals as goal

pub loop-c-init : goal.loop-c-init
unfolding first_below
loop-c-init c = refl

pub returns-in_err-channel : goal.returns-in_err-channel
unfolding refusal_of channels_refusal
returns-in_err-channel c =
    let l = c.loop-c in
    let said : refusal_of c.from_residual.result ≡ some (refusal_number c.in_err-channel.field-0.0) = search rules in
    said
    ∙ sym (first_at _ l.c _ _ (omega arith) l.invariant (sym c.channel.ensures ∙ ap refusal_of c.in_err-channel.was))

pub loop-c-preserved : goal.loop-c-preserved
unfolding refusal_of
loop-c-preserved c =
    let l = c.loop-c in first_next l.c _ l.invariant ∙ sym c.channel.ensures ∙ ap refusal_of c.in_ok-channel.was
