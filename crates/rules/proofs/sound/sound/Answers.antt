-- `rules::sound::sound`: the topology is refused, or each clause of the definition is one of the code's tests.
use Rattle.std.proofs.Common.{◌≡◌, ℕ, Bool, true, length, get_or, nat_le, sym, ap, ◌∙◌, arith}
use Rattle.std.proofs.Common.{rules}
use Rattle.std.proofs.Math.Bool.{and_assoc, and-true}
use mathlib.Core.Path.{fun_ext}
use Rattle.model.specs.declared.State.{State}
use Rattle.model.specs.declared.Topology.{Topology}
use Rattle.model.specs.Topology.{channel_limit}
use Rattle.model.specs.Notation.{all_true, all_below}
use Rattle.model.specs.Channel.{channel_room}
use Rattle.model.specs.State.{view, view_counts}
use Rattle.model.specs.Sound.{topology_sound, channel_sound, channel_sound_by, log_sound, sound_by, sound}
use Rattle.model.proofs.laws.ChannelLaws.{entries_count}
use Rattle.model.proofs.laws.TopologyLaws.{SizesFit}
use Rattle.rules.proofs.EndsPass.{sound_sizes}
use Rattle.rules.proofs.sound.sound.Goals as goal

pub returns-then-not-passes : goal.returns-then-not-passes
unfolding sound sound_by all_true view
returns-then-not-passes c = rw (← c.passes.ensures, c.if-not-passes.true)

-- past the topology's check
fit : (T : Topology) {passes : Bool} → passes ≡ topology_sound T → passes ≡ true
    → SizesFit T.processes T.channels
fit T told e = sound_sizes T (sym told ∙ e)

pub at_most-channels-requires : goal.at_most-channels-requires
at_most-channels-requires c =
    let long : length c.args.s.lengths ≡ channel_limit = search rules in
    omega (arith, (fit c.args.s.topology c.passes.ensures c.if-not-passes.false).channels)

pub at_most-messages-requires : goal.at_most-messages-requires
at_most-messages-requires c = omega (arith, (fit c.args.s.topology c.passes.ensures c.if-not-passes.false).processes)

pub at_most-logs-requires : goal.at_most-logs-requires
at_most-logs-requires c = omega (arith, (fit c.args.s.topology c.passes.ensures c.if-not-passes.false).channels)

-- a channel is sound by the number of its entries
channels_told : (s : State) (n : ℕ)
    → all_below n (λ c. nat_le (get_or s.lengths c 0) channel_room)
    ≡ all_below n (channel_sound_by channel_sound (view s))
unfolding channel_sound_by channel_sound view
channels_told s n = ap (all_below n) (fun_ext (λ c. ap (λ (k : ℕ). nat_le k channel_room) (sym (entries_count _))))

pub returns : goal.returns
unfolding sound sound_by all_true view view_counts log_sound
returns c =
    rw (
      ← c.passes.ensures,
      c.if-not-passes.false,
      c.at_most-channels.ensures,
      channels_told c.args.s,
      c.at_most-messages.ensures,
      c.at_most-logs.ensures,
      c.phase_sound.ensures,
      c.line_sound.ensures,
    )
    (simp (and_assoc, and-true))
