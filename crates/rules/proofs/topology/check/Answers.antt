use Rattle.std.proofs.Common.{sym, ap, ◌∙◌, rules}
use mathlib.Core.Option.{or_else}
use Rattle.model.specs.Check.{first_refusal}
use Rattle.model.specs.Topology.{topology_refusal, late_refusal}
use Rattle.model.specs.Outcome.{refusal_of}
use Rattle.model.specs.Sound.{topology_sound}
use Rattle.model.proofs.laws.TopologyLaws.{sizes}
use Rattle.rules.proofs.EndsPass.{accepts_none}
use Rattle.rules.proofs.topology.check.Goals as goal

pub returns-then-passes : goal.returns-then-passes
unfolding refusal_of topology_sound
returns-then-passes c = sym (accepts_none _ (sym c.passes.ensures ∙ c.if-passes.true))

pub channels-requires : goal.channels-requires
unfolding refusal_of
channels-requires c = (sizes _ _ (sym c.sizes.ensures ∙ ap refusal_of c.in_ok-sizes.was)).channels

pub returns-in_err-sizes : goal.returns-in_err-sizes
unfolding refusal_of topology_refusal or_else
returns-in_err-sizes c = rw (← c.sizes.ensures, c.in_err-sizes.was) (search rules)

pub returns-in_err-channels : goal.returns-in_err-channels
unfolding refusal_of topology_refusal or_else
returns-in_err-channels c =
    rw (← c.sizes.ensures, c.in_ok-sizes.was, ← c.channels.ensures, c.in_err-channels.was) (search rules)

pub returns-then-not-known : goal.returns-then-not-known
unfolding refusal_of topology_refusal or_else late_refusal first_refusal
returns-then-not-known c =
    rw (← c.sizes.ensures, c.in_ok-sizes.was, ← c.channels.ensures, c.in_ok-channels.was, ← c.known.ensures)
    (search rules)

pub returns : goal.returns
unfolding refusal_of topology_refusal or_else late_refusal first_refusal
returns c =
    rw (← c.sizes.ensures, c.in_ok-sizes.was, ← c.channels.ensures, c.in_ok-channels.was, ← c.known.ensures)
    (search rules)
