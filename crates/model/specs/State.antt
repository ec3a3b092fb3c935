-- Document 01's state, with functions of the index for its arrays, and how a State of the code is seen as one.
use Rattle.std.specs.Prelude.{ℕ, ◌+◌, Bool, false, List, [], ◌∷◌, get_or, replicate}
use Rattle.model.specs.declared.State.{State}
use Rattle.model.specs.declared.Flags.{Flags}
use Rattle.model.specs.declared.Counts.{Counts}
use Rattle.model.specs.declared.Round.{Round}
use Rattle.model.specs.declared.Phase.TheVariants.{Idle}
use Rattle.model.specs.declared.Topology.{Topology}
use Rattle.model.specs.declared.Channel.{Channel}
use Rattle.model.specs.declared.Places.{Places}
use Rattle.model.specs.declared.Entry.{Entry}
use Rattle.model.specs.Notation.{upd}
use Rattle.model.specs.Topology.{channel_limit}
use Rattle.model.specs.Channel.{array_places, held, entries}
use Rattle.model.specs.Layout.{Log, message_log, channel_log}

-- what the round under way has done: processes that have their logical checkpoint (marked boards), late processes that
-- have their physical checkpoint too (M-105: "It may copy once marked, one time in a round"), closed wires, wires with
-- their note put
pub record Progress : Type 0 where
  pub logical : ℕ → Bool
  pub saved : ℕ → Bool
  pub closed : ℕ → Bool
  pub sent : ℕ → Bool

-- "The state holds every log's count"
pub record LogCounts : Type 0 where
  pub messages : ℕ → ℕ
  pub channels : ℕ → ℕ

-- the standing of the head: plan, round (its k and its phase), each board's word and tag, each wire's entries
pub record GlobalState : Type 0 where
  pub topology : Topology
  pub round : Round
  pub word : ℕ → ℕ
  pub tag : ℕ → Bool
  pub channel : ℕ → List Entry
  pub progress : Progress
  pub counts : LogCounts

-- "no board marked, no wire closed and no note put"; and no late board copied, as "one time in a round" is counted anew
-- in the next one
unfoldable pub no_progress : Progress
no_progress = record { logical = λ p. false; saved = λ p. false; closed = λ c. false; sent = λ c. false }

unfoldable pub no_counts : LogCounts
no_counts = record { messages = λ p. 0; channels = λ c. 0 }

-- how many entries a log has, by the state
abbrev pub count_of : LogCounts → Log → ℕ
count_of counts (message_log p) = counts.messages p
count_of counts (channel_log c) = counts.channels c

-- one entry more in a log
unfoldable pub raised : Log → LogCounts → LogCounts
raised (message_log p) counts =
    record { messages = upd counts.messages p (counts.messages p + 1); channels = counts.channels }
raised (channel_log c) counts =
    record { messages = counts.messages; channels = upd counts.channels c (counts.channels c + 1) }

-- one entry more in each of these logs
unfoldable pub raised_all : List Log → LogCounts → LogCounts
raised_all [] counts = counts
raised_all (log ∷ logs) counts = raised_all logs (raised log counts)

-- an idle state at line k, with tags 0, no progress and no log counts: what setup and restart answer
unfoldable pub idle_state : Topology → ℕ → (ℕ → ℕ) → (ℕ → List Entry) → GlobalState
idle_state T k word channel =
    record {
      topology = T;
      round = record { line = k; phase = Idle };
      word = word;
      tag = λ p. false;
      channel = channel;
      progress = no_progress;
      counts = no_counts;
    }

-- no topology: no process, no channel
unfoldable pub blank_topology : Topology
blank_topology =
    record {
      processes = 0;
      channels = 0;
      from = replicate channel_limit 0;
      to = replicate channel_limit 0;
      late = 0;
    }

-- what a refused setup or restart puts in the state's place
unfoldable pub blank_state : GlobalState
blank_state = idle_state blank_topology 0 (λ p. 0) (λ c. [])

unfoldable pub view_progress : Flags → Progress
view_progress f =
    record {
      logical = λ p. get_or f.logical p false;
      saved = λ p. get_or f.saved p false;
      closed = λ c. get_or f.closed c false;
      sent = λ c. get_or f.sent c false;
    }

unfoldable pub view_counts : Counts → LogCounts
view_counts n = record { messages = λ p. get_or n.messages p 0; channels = λ c. get_or n.channels c 0 }

-- places with nothing in them, for an index past the array; and a channel with no entry
unfoldable pub no_places : Places
no_places = record { bodies = replicate array_places 0; kinds = replicate array_places 0 }

abbrev pub empty_channel : Channel
empty_channel = held no_places 0

-- the entries of channel c, by the arrays of places and lengths
abbrev pub entries_in : List Places → List ℕ → ℕ → List Entry
entries_in places lengths c = entries (held (get_or places c no_places) (get_or lengths c 0))

-- How a state of the code is seen. Nothing is hidden but the unused places of channels, and by which of the kinds over
-- 1, and beside which body, a marker is written (Channel.entry_of).
unfoldable pub view : State → GlobalState
view s =
    record {
      topology = s.topology;
      round = s.round;
      word = λ p. get_or s.words p 0;
      tag = λ p. get_or s.tags p false;
      channel = entries_in s.places s.lengths;
      progress = view_progress s.flags;
      counts = view_counts s.counts;
    }
