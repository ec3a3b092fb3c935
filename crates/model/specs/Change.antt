-- What steps change in a state, one thing at a time; everything else stays.
use Rattle.std.specs.Prelude.{ℕ, Bool, true, false, cond, not, List}
use Rattle.model.specs.declared.Round.{Round}
use Rattle.model.specs.declared.Phase.{Phase}
use Rattle.model.specs.declared.Phase.TheVariants.{Idle}
use Rattle.model.specs.declared.Entry.{Entry}
use Rattle.model.specs.declared.Entry.TheVariants.{Message, Marker}
use Rattle.model.specs.Notation.{upd}
use Rattle.model.specs.Word.{receipt, enter}
use Rattle.model.specs.Topology.{has_channel}
use Rattle.model.specs.Channel.{bodies, messages}
use Rattle.model.specs.State.{GlobalState, Progress, LogCounts, no_progress}

-- a state with one part exchanged
unfoldable pub with_round : Round → GlobalState → GlobalState
with_round x s =
    record {
      topology = s.topology;
      round = x;
      word = s.word;
      tag = s.tag;
      channel = s.channel;
      progress = s.progress;
      counts = s.counts;
    }

unfoldable pub with_word : (ℕ → ℕ) → GlobalState → GlobalState
with_word x s =
    record {
      topology = s.topology;
      round = s.round;
      word = x;
      tag = s.tag;
      channel = s.channel;
      progress = s.progress;
      counts = s.counts;
    }

unfoldable pub with_tag : (ℕ → Bool) → GlobalState → GlobalState
with_tag x s =
    record {
      topology = s.topology;
      round = s.round;
      word = s.word;
      tag = x;
      channel = s.channel;
      progress = s.progress;
      counts = s.counts;
    }

unfoldable pub with_channel : (ℕ → List Entry) → GlobalState → GlobalState
with_channel x s =
    record {
      topology = s.topology;
      round = s.round;
      word = s.word;
      tag = s.tag;
      channel = x;
      progress = s.progress;
      counts = s.counts;
    }

unfoldable pub with_progress : Progress → GlobalState → GlobalState
with_progress x s =
    record {
      topology = s.topology;
      round = s.round;
      word = s.word;
      tag = s.tag;
      channel = s.channel;
      progress = x;
      counts = s.counts;
    }

unfoldable pub with_counts : LogCounts → GlobalState → GlobalState
with_counts x s =
    record {
      topology = s.topology;
      round = s.round;
      word = s.word;
      tag = s.tag;
      channel = s.channel;
      progress = s.progress;
      counts = x;
    }

-- a round's progress with one part exchanged
unfoldable pub with_logical : (ℕ → Bool) → Progress → Progress
with_logical x p = record { logical = x; saved = p.saved; closed = p.closed; sent = p.sent }

unfoldable pub with_saved : (ℕ → Bool) → Progress → Progress
with_saved x p = record { logical = p.logical; saved = x; closed = p.closed; sent = p.sent }

unfoldable pub with_closed : (ℕ → Bool) → Progress → Progress
with_closed x p = record { logical = p.logical; saved = p.saved; closed = x; sent = p.sent }

unfoldable pub with_sent : (ℕ → Bool) → Progress → Progress
with_sent x p = record { logical = p.logical; saved = p.saved; closed = p.closed; sent = x }

-- the round goes on in another phase
unfoldable pub in_phase : Phase → GlobalState → GlobalState
in_phase phase s = with_round (record { line = s.round.line; phase = phase }) s

unfoldable pub set_entries : ℕ → List Entry → GlobalState → GlobalState
set_entries c es s = with_channel (upd s.channel c es) s

-- "Every message taken then enters the word.": an entry of channel c, at its receiver p
unfoldable pub enter_message : ℕ → ℕ → Entry → GlobalState → GlobalState
enter_message c p (Message b t) s = with_word (upd s.word p (enter (s.word p) (receipt c b))) s
enter_message c p Marker s = s

-- a logical checkpoint (mark): "Marking turns the board's tag over."
unfoldable pub logical_checkpoint : ℕ → GlobalState → GlobalState
logical_checkpoint p s =
    with_tag (upd s.tag p (not (s.tag p)))
    (with_progress (with_logical (upd s.progress.logical p true) s.progress) s)

-- a late process has its physical checkpoint (copy)
unfoldable pub record_saved : ℕ → GlobalState → GlobalState
record_saved p s = with_progress (with_saved (upd s.progress.saved p true) s.progress) s

unfoldable pub close : ℕ → GlobalState → GlobalState
close c s = with_progress (with_closed (upd s.progress.closed c true) s.progress) s

unfoldable pub record_sent : ℕ → GlobalState → GlobalState
record_sent c s = with_progress (with_sent (upd s.progress.sent c true) s.progress) s

-- "Notes leave the wires, all tags become 0, message order stays": on the planned channels
unfoldable pub plain_channels : GlobalState → ℕ → List Entry
plain_channels s c = cond (has_channel s.topology c) (messages false (bodies (s.channel c))) (s.channel c)

-- the round is over: idle at this line, "no board marked, no wire closed and no note put", no late board copied
unfoldable pub end_round : ℕ → GlobalState → GlobalState
end_round line s = with_round (record { line = line; phase = Idle }) (with_progress no_progress s)
