-- The loop of `rules::topology::channels`: no channel below c is refused.
use Rattle.std.proofs.Common.{◌≡◌}
use mathlib.Core.Option.{none}
use Rattle.model.specs.Notation.{first_below}
use Rattle.model.specs.Topology.{channel_refusal}
use Rattle.rules.proofs.topology.channels.Given as goal

abbrev pub invariant-loop-c : goal.invariant-loop-c
invariant-loop-c l = first_below l.c (channel_refusal l.t) ≡ none
