-- Refusal 15, document 01: "state unsound: its plan meets 1 to 5, a planned wire has over 8 entries, the log of a
-- planned board or wire is over its places, the next board to copy isn't in the plan, or the round isn't idle at k =
-- 4,294,967,295." Document 02, M-105: 19 "in a state it is 15, and so is a late board as the next to copy." A clause
-- for each, which says that it is not so.
use Rattle.std.specs.Prelude.{ℕ, Bool, true, not, ◌&&◌, ◌||◌, List, [], ◌∷◌, leb, eqb}
use Rattle.model.specs.declared.Phase.{Phase}
use Rattle.model.specs.declared.Phase.TheVariants.{Idle, Physical, Logical}
use Rattle.model.specs.declared.Round.{Round}
use Rattle.model.specs.declared.Topology.{Topology}
use Rattle.model.specs.declared.Entry.{Entry}
use Rattle.model.specs.Notation.{all_below, all_true}
use Rattle.model.specs.Check.{accepts}
use Rattle.model.specs.Topology.{topology_refusal, has_process, is_late}
use Rattle.model.specs.Channel.{channel_room, occupied}
use Rattle.model.specs.Phase.{is_idle}
use Rattle.model.specs.Layout.{Log, message_log, channel_log, places}
use Rattle.model.specs.State.{GlobalState, LogCounts, count_of}

-- the largest line number there is: k = 4,294,967,295
abbrev pub last_line : ℕ
last_line = 4294967295

-- "its plan meets 1 to 5", or 19
unfoldable pub topology_sound : Topology → Bool
topology_sound T = accepts (topology_refusal T)

-- A rule for channel c of the topology, in this phase, with its marker sent or not, closed or not, and with these
-- entries.
abbrev pub ChannelRule : Type 0
ChannelRule = Topology → Phase → Bool → Bool → ℕ → List Entry → Bool

-- "a planned wire has over 8 entries": only the entries count so far
unfoldable pub channel_sound : ChannelRule
channel_sound T phase sent closed c es = leb (occupied es) channel_room

-- "the log of a planned board or wire is over its places"
unfoldable pub log_sound : LogCounts → Log → Bool
log_sound counts log = leb (count_of counts log) (places log)

-- "the next board to copy isn't in the plan", or is late
unfoldable pub phase_sound : Topology → Phase → Bool
phase_sound T Idle = true
phase_sound T (Physical next) = has_process T next && not (is_late T next)
phase_sound T Logical = true

-- "the round isn't idle at k = 4,294,967,295"
unfoldable pub line_sound : Round → Bool
line_sound round = is_idle round.phase || not (eqb round.line last_line)

-- channel c, as the state has it
unfoldable pub channel_sound_by : ChannelRule → GlobalState → ℕ → Bool
channel_sound_by rule s c =
    rule s.topology s.round.phase (s.progress.sent c) (s.progress.closed c) c (s.channel c)

-- the clauses, with this rule for channels
unfoldable pub sound_by : ChannelRule → GlobalState → Bool
sound_by rule s =
    all_true
    (topology_sound s.topology
    ∷ all_below s.topology.channels (channel_sound_by rule s)
    ∷ all_below s.topology.processes (λ p. log_sound s.counts (message_log p))
    ∷ all_below s.topology.channels (λ c. log_sound s.counts (channel_log c))
    ∷ phase_sound s.topology s.round.phase
    ∷ line_sound s.round
    ∷ [])

unfoldable pub sound : GlobalState → Bool
sound s = sound_by channel_sound s
