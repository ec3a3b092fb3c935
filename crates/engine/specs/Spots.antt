-- A step on one spot: what it is about, when a state is seen so there, and what a state becomes by the turn.
use Rattle.std.specs.Prelude.{◌≡◌, ℕ, ◌<◌, ◌≤◌, Bool, true, false, cond, not, ◌&&◌, ◌||◌, List, [], get_or}
use Rattle.std.specs.Prelude.{Result, Ok, Err, is_ok, nat_lt, slice_index, slice_index_or}
use Rattle.model.specs.declared.Answer.{Answer}
use Rattle.model.specs.declared.Flags.{Flags}
use Rattle.model.specs.declared.Refusal.{Refusal}
use Rattle.model.specs.declared.Refusal.TheVariants.{NoSuch, ShortStore, Unsound}
use Rattle.model.specs.declared.State.{State}
use Rattle.model.specs.declared.Topology.{Topology}
use Rattle.model.specs.declared.Step.{Step}
use Rattle.model.specs.declared.Step.TheVariants.{Send, Receive, Begin, PhysicalCheckpoint}
use Rattle.model.specs.declared.Step.TheVariants.{LogicalCheckpoint, SendMarker, Commit, Abort}
use Rattle.model.specs.declared.Outcome.{Outcome}
use Rattle.model.specs.declared.Outcome.TheVariants.{Done}
use Rattle.model.specs.declared.Outcome.TheVariants as outcome
use Rattle.model.specs.Notation.{upd, all_below, bit_of}
use Rattle.model.specs.Topology.{process_limit, channel_limit, sender, receiver, has_process, has_channel}
use Rattle.model.specs.Channel.{entries, held}
use Rattle.model.specs.Phase.{is_logical, is_next}
use Rattle.model.specs.Layout.{store_cells}
use Rattle.model.specs.State.{GlobalState, Progress, LogCounts, no_places, no_progress, no_counts, view}
use Rattle.model.specs.Sound.{sound}
use Rattle.model.specs.Change.{plain_channels, with_counts}
use Rattle.model.specs.Outcome.{said_by}
use Rattle.model.specs.Heard.{accepted}
use Rattle.model.specs.Write.{Write, under_budget, clear_writes}
use Rattle.model.specs.Step.{has_physical, physical_from, quietly}
use Rattle.engine.specs.declared.spot.Subject.{Subject}
use Rattle.engine.specs.declared.spot.Spot.{Spot}
use Rattle.engine.specs.declared.spot.Reset.{Reset}
use Rattle.engine.specs.declared.spot.Turn.{Turn}
use Rattle.engine.specs.declared.spot.Stop.{Stop}
use Rattle.engine.specs.declared.spot.Stop.TheVariants.{Refused, PowerLost}
use Rattle.engine.specs.Answers.{own_result}

-- a step is about this channel and this process; or it is about one that there isn't (refusal 8)
abbrev pub at : ℕ → ℕ → Result Subject Refusal
at c p = Ok (record { channel = c; process = p })

abbrev pub no_such : Result Subject Refusal
no_such = Err NoSuch

-- about a channel, and the process at that one of its ends that these are; about a process; about none
abbrev pub at_end : ℕ → List ℕ → ℕ → Result Subject Refusal
at_end channels ends c = cond (nat_lt c channels) (at c (slice_index ends c)) no_such

abbrev pub sending : Topology → ℕ → Result Subject Refusal
sending T c = cond (has_channel T c) (at c (sender T c)) no_such

abbrev pub receiving : Topology → ℕ → Result Subject Refusal
receiving T c = cond (has_channel T c) (at c (receiver T c)) no_such

abbrev pub on_process : Topology → ℕ → Result Subject Refusal
on_process T p = cond (has_process T p) (at 0 p) no_such

-- 0 where a step is about no channel or no process
abbrev pub about_none : Result Subject Refusal
about_none = at 0 0

-- what a step is about
abbrev pub subject_of : Topology → Step → Result Subject Refusal
subject_of T (Send c b) = sending T c
subject_of T (Receive c) = receiving T c
subject_of T Begin = about_none
subject_of T (PhysicalCheckpoint p) = on_process T p
subject_of T (LogicalCheckpoint p) = on_process T p
subject_of T (SendMarker c) = sending T c
subject_of T Commit = about_none
subject_of T Abort = about_none

-- before everything else 15, then 6, then 8; cells is the number of the store's cells
abbrev pub admission_of : State → Step → ℕ → Result Subject Refusal
admission_of s x cells =
    cond (sound (view s)) (cond (nat_lt cells store_cells) (Err ShortStore) (subject_of s.topology x)) (Err Unsound)

abbrev pub is_commit : Step → Bool
is_commit (Send c b) = false
is_commit (Receive c) = false
is_commit Begin = false
is_commit (PhysicalCheckpoint p) = false
is_commit (LogicalCheckpoint p) = false
is_commit (SendMarker c) = false
is_commit Commit = true
is_commit Abort = false

-- "every board marked, every wire closed", and every late board copied: "finish waits for it"; asked for a commit alone
abbrev pub through_for : GlobalState → Step → Bool
through_for g x =
    cond (is_commit x)
    (all_below g.topology.processes (λ p. g.progress.logical p && has_physical g p)
    && all_below g.topology.channels g.progress.closed)
    false

-- the state g, for the step x, looks like this at the spot
pub record Sees (g : GlobalState) (x : Step) (s : Spot) : Type 0 where
  pub subject : subject_of g.topology x ≡ at s.channel s.process
  pub processes : g.topology.processes ≡ s.processes
  pub channels : g.topology.channels ≡ s.channels
  pub late : g.topology.late ≡ s.late
  pub round : g.round ≡ s.round
  pub held : g.channel s.channel ≡ entries s.held
  pub closed : g.progress.closed s.channel ≡ s.closed
  pub sent : g.progress.sent s.channel ≡ s.sent
  pub in_channel : g.counts.channels s.channel ≡ s.in_channel
  pub word : g.word s.process ≡ s.word
  pub tag : g.tag s.process ≡ s.tag
  pub logical : g.progress.logical s.process ≡ s.logical
  pub saved : g.progress.saved s.process ≡ s.saved
  pub in_messages : g.counts.messages s.process ≡ s.in_messages
  pub first : g.progress.logical 0 ≡ s.first
  pub through : through_for g x ≡ s.through

-- the spot is one of a sound state
pub record Seen (x : Step) (s : Spot) : Type 0 where
  pub state : GlobalState
  pub sees : Sees state x s
  pub sound : sound state ≡ true

-- what a spot is about
abbrev pub about : Spot → Subject
about s = record { channel = s.channel; process = s.process }

-- a round's progress and the logs' counts with what the spot n has of the subject s, or set back
abbrev pub put_progress : Bool → Subject → Spot → Progress → Progress
put_progress back s n p =
    cond back no_progress
    (record {
      logical = upd p.logical s.process n.logical;
      saved = upd p.saved s.process n.saved;
      closed = upd p.closed s.channel n.closed;
      sent = upd p.sent s.channel n.sent;
    })

abbrev pub put_counts : Bool → Subject → Spot → LogCounts → LogCounts
put_counts back s n k =
    cond back no_counts
    (record {
      messages = upd k.messages s.process n.in_messages;
      channels = upd k.channels s.channel n.in_channel;
    })

-- the state g with the turn r at the subject s written back
unfoldable pub put_back : Subject → Turn → GlobalState → GlobalState
put_back s r g =
    record {
      topology = g.topology;
      round = r.spot.round;
      word = upd g.word s.process r.spot.word;
      tag = cond r.reset.tags (λ p. false) (upd g.tag s.process r.spot.tag);
      channel =
          cond r.reset.tags (plain_channels g) (upd g.channel s.channel (entries r.spot.held));
      progress = put_progress r.reset.flags s r.spot g.progress;
      counts = put_counts r.reset.counts s r.spot g.counts;
    }

-- the state after a step's own part: where the step was refused or cut, the one before it
abbrev pub after_turn : Spot → Result Turn Stop → GlobalState → GlobalState
after_turn s (Ok r) g = put_back (about s) r g
after_turn s (Err stop) g = g

-- what it answers, and how many writes it made, with a budget
abbrev pub outcome_of : Result Turn Stop → Outcome
outcome_of (Ok r) = r.outcome
outcome_of (Err (Refused r)) = outcome.Refused r
outcome_of (Err PowerLost) = outcome.PowerLost

abbrev pub made_of : ℕ → Result Turn Stop → ℕ
made_of budget (Ok r) = r.made
made_of budget (Err (Refused r)) = 0
made_of budget (Err PowerLost) = budget

-- The promise of a step's own part: of every state that looks so at the spot, the turn is what the model's definition
-- has.
pub record Turns (s : Spot) (x : Step) (before : List ℕ) (budget : ℕ) (r : Result Turn Stop)
    (after : List ℕ) : Type 0 where
  pub answered : (g : GlobalState) → Sees g x s
      → under_budget budget g before (own_result g x)
      ≡ record {
        outcome = said_by (outcome_of r);
        made = made_of budget r;
        state = after_turn s r g;
        store = after;
      }
  pub went : accepted (said_by (outcome_of r)) ≡ is_ok r

-- what a step that writes nothing answers, as of any step
abbrev pub may_stop : Result Turn Refusal → Result Turn Stop
may_stop (Ok r) = Ok r
may_stop (Err r) = Err (Refused r)

-- and what its turn promises, for any store and budget
pub record QuietTurn (s : Spot) (x : Step) (r : Result Turn Refusal) : Type 0 where
  pub result : (g : GlobalState) → Sees g x s
      → own_result g x ≡ quietly (said_by (outcome_of (may_stop r))) (after_turn s (may_stop r) g)
  pub made : made_of 0 (may_stop r) ≡ 0
  pub went : accepted (said_by (outcome_of (may_stop r))) ≡ is_ok r

-- whether the spot's process, which is late or not, may have its physical checkpoint
abbrev pub may_physically : Spot → Bool → Bool
may_physically s late =
    cond late (is_logical s.round.phase && s.logical && not s.saved) (is_next s.round.phase s.process)

-- An accepted turn after m writes: in every state seen so the physical checkpoints go on from process `from`, with the
-- logs' counts set back or not.
pub record GoesFrom (s : Spot) (from : ℕ) (counts : Bool) (m : ℕ) (r : Turn) : Type 0 where
  pub outcome : r.outcome ≡ Done
  pub made : r.made ≡ m
  pub state : (x : Step) (g : GlobalState) → Sees g x s
      → physical_from from (with_counts (cond counts no_counts g.counts) g) ≡ put_back (about s) r g

-- a topology of these sizes: what a begin clears goes by the sizes alone
abbrev pub sized : ℕ → ℕ → Topology
sized processes channels = record { processes = processes; channels = channels; from = []; to = []; late = 0 }

abbrev pub clearing : ℕ → ℕ → ℕ → List Write
clearing processes channels line = clear_writes (sized processes channels) line

-- whether the first n flags are all set
abbrev pub all_set : List Bool → ℕ → Bool
all_set flags n = all_below n (λ i. get_or flags i false)

-- by the code's flags and the map of late processes: whether each of the first n processes has its logical checkpoint
-- and, if it is late, its physical one
abbrev pub all_checkpointed : (logical saved : List Bool) (late n : ℕ) → Bool
all_checkpointed logical saved late n =
    all_below n (λ p. slice_index_or logical p false && (not (bit_of late p) || slice_index_or saved p false))

-- and whether each channel is closed too, for a whole topology, asked for a commit alone
abbrev pub through_in : Step → Topology → Flags → Bool
through_in x T flags =
    cond (is_commit x)
    (all_checkpointed flags.logical flags.saved T.late T.processes && all_set flags.closed T.channels)
    false

-- a subject and a topology's sizes that are within a state's arrays
pub record Within (T : Topology) (at : Subject) : Type 0 where
  pub processes : T.processes ≤ process_limit
  pub channels : T.channels ≤ channel_limit
  pub channel : at.channel < channel_limit
  pub process : at.process < process_limit

-- the spot of a subject
abbrev pub spot_of : State → Step → Subject → Spot
spot_of s x at =
    record {
      channel = at.channel;
      process = at.process;
      processes = s.topology.processes;
      channels = s.topology.channels;
      late = s.topology.late;
      round = s.round;
      held = held (slice_index_or s.places at.channel no_places) (slice_index s.lengths at.channel);
      closed = slice_index_or s.flags.closed at.channel false;
      sent = slice_index_or s.flags.sent at.channel false;
      in_channel = slice_index s.counts.channels at.channel;
      word = slice_index s.words at.process;
      tag = slice_index_or s.tags at.process false;
      logical = slice_index_or s.flags.logical at.process false;
      saved = slice_index_or s.flags.saved at.process false;
      in_messages = slice_index s.counts.messages at.process;
      first = slice_index_or s.flags.logical 0 false;
      through = through_in x s.topology s.flags;
    }

-- the answer to a step, with the state after it
abbrev pub answer_of : ℕ → Result Turn Stop → State → Answer
answer_of budget r s = record { outcome = outcome_of r; made = made_of budget r; state = s }

abbrev pub nothing : Reset
nothing = record { counts = false; flags = false; tags = false }

abbrev pub going : Outcome → ℕ → Spot → Turn
going o n s = record { outcome = o; made = n; spot = s; reset = nothing }
