-- What is not planned stays as setup left it: of a process or channel beyond the topology no step changes anything.
use Prim.Native.Nat.{ℕ, ◌+◌, ◌<◌, ◌≤◌}
use mathlib.Core.Path.{◌≡◌, refl, ◌∙◌}
use mathlib.Core.Bool.{Bool, true, false, not}
use mathlib.Core.List.{List, [], ◌∷◌}
use mathlib.Core.Option.{Option, none, some}
use borrow.Author.Tests.{le-ltb}
use native.Mathlib.Omega.{arith}
use Rattle.model.specs.declared.Topology.{Topology}
use Rattle.model.specs.declared.Entry.{Entry}
use Rattle.model.specs.declared.Entry.TheVariants.{Message, Marker}
use Rattle.model.specs.declared.Step.{Step}
use Rattle.model.specs.declared.Step.TheVariants.{Send, Receive, Begin, PhysicalCheckpoint}
use Rattle.model.specs.declared.Step.TheVariants.{LogicalCheckpoint, SendMarker, Commit, Abort}
use Rattle.model.specs.Notation.{upd}
use Rattle.model.specs.Topology.{receiver, has_channel, is_late, first_early, topology_refusal}
use Rattle.model.specs.Channel.{no_entry}
use Rattle.model.specs.Layout.{Log, message_log, channel_log}
use Rattle.model.specs.State.{GlobalState, Progress, LogCounts, idle_state, no_progress, no_counts, raised, raised_all}
use Rattle.model.specs.Change.{set_entries, with_round, with_word, with_channel, with_counts, with_tag, with_progress}
use Rattle.model.specs.Change.{with_logical, with_saved, with_sent, in_phase, end_round, plain_channels, enter_message}
use Rattle.model.specs.Change.{close, logical_checkpoint, record_saved, record_sent}
use Rattle.model.specs.Receive.{Reaction, receiver_at}
use Rattle.model.specs.Step.{effect, quietly, react, reaction, receive, physical_at, physical_from, after_physical}
use Rattle.model.specs.Step.{answer}
use Rattle.model.proofs.laws.Tests.{true_is_not_false, either}
use Rattle.model.proofs.laws.Functions.{upd_other}
use Rattle.model.proofs.laws.TopologyLaws.{Planned, receiver_planned}
use Rattle.model.proofs.laws.Passing.{Prior}
use Rattle.model.proofs.laws.ReceiveLaws.{EachLog, reaction_logs}
use Rattle.model.proofs.laws.Receiving.{receive_takes}
use Rattle.model.proofs.laws.Calls.{Answering, unheard, answers, answer_cases}

-- f has z from n on
abbrev Rests : {A : Type 0} → ℕ → (ℕ → A) → A → Type 0
Rests n f z = (i : ℕ) → n ≤ i → f i ≡ z

pub record BareFlags (T : Topology) (flags : Progress) : Type 0 where
  pub logical : Rests T.processes flags.logical false
  pub saved : Rests T.processes flags.saved false
  pub closed : Rests T.channels flags.closed false
  pub sent : Rests T.channels flags.sent false

pub record BareCounts (T : Topology) (counts : LogCounts) : Type 0 where
  pub messages : Rests T.processes counts.messages 0
  pub channels : Rests T.channels counts.channels 0

pub record BareParts (T : Topology) (words : ℕ → ℕ) (tags : ℕ → Bool) (entries : ℕ → List Entry) (progress : Progress)
    (logs : LogCounts) : Type 0 where
  pub word : Rests T.processes words 0
  pub tag : Rests T.processes tags false
  pub channel : Rests T.channels entries []
  pub flags : BareFlags T progress
  pub counts : BareCounts T logs

abbrev pub Beyond : Topology → GlobalState → Type 0
Beyond T s = BareParts T s.word s.tag s.channel s.progress s.counts

-- a planned index written
written : {A : Type 0} {n : ℕ} {f : ℕ → A} {z : A} (i : ℕ) (x : A) → i < n → Rests n f z → Rests n (upd f i x) z
written {f = f} i x l h j m = upd_other f i j x (λ e. omega (arith, e)) ∙ h j m

module _ (T : Topology) where
  no_flags : BareFlags T no_progress
  unfolding no_progress
  no_flags = record { logical = λ p l. refl; saved = λ p l. refl; closed = λ c l. refl; sent = λ c l. refl }

  no_counts_lem : BareCounts T no_counts
  unfolding no_counts
  no_counts_lem = record { messages = λ p l. refl; channels = λ c l. refl }

  one_raised : (log : Log) (counts : LogCounts) → Planned T log → BareCounts T counts → BareCounts T (raised log counts)
  unfolding raised
  one_raised (message_log p) counts l b = record { messages = written p _ l b.messages; channels = b.channels }
  one_raised (channel_log c) counts l b = record { messages = b.messages; channels = written c _ l b.channels }

  all_raised : (logs : List Log) (counts : LogCounts) → EachLog (Planned T) logs → BareCounts T counts
      → BareCounts T (raised_all logs counts)
  unfolding raised_all
  all_raised [] counts l b = b
  all_raised (log ∷ logs) counts l b = all_raised logs (raised log counts) l.1 (one_raised log counts l.0 b)

module _ (s : GlobalState) (good : topology_refusal s.topology ≡ none) (b : Beyond s.topology s) where
  abbrev T : Topology
  T = s.topology

  -- the words after a receive
  received_words : (x : Reaction) (c p : ℕ) (e : Entry) (es : List Entry) → p < T.processes
      → Rests T.processes (enter_message c p e (set_entries c es (react x c p s))).word 0
  unfolding enter_message set_entries react close logical_checkpoint with_word with_channel with_tag with_progress
      with_counts
  received_words x c p e es l = entered e
    where
      Bare : GlobalState → Type 0
      Bare y = Rests T.processes y.word 0

      reacted : Bare (react x c p s)
      reacted =
          either Bare x.closes _ _ (either Bare x.logical_first _ _ b.word b.word)
          (either Bare x.logical_first _ _ b.word b.word)

      entered : (e : Entry) → Bare (enter_message c p e (set_entries c es (react x c p s)))
      entered (Message body t) = written p _ l reacted
      entered Marker = reacted

  receive_beyond : (c : ℕ) → c < T.channels → (es : List Entry) → no_entry es ≡ false
      → Beyond T (receive s c es).state
  unfolding no_entry receive reaction
  receive_beyond c l [] none-there = true_is_not_false refl none-there
  receive_beyond c l (e ∷ es) some-there =
      rw (receive_takes s c e es)
      (record {
        word = received_words x c r e es lr;
        tag = either (λ (f : ℕ → Bool). Rests T.processes f false) x.logical_first _ _ turned b.tag;
        channel = written c es l b.channel;
        flags =
            record {
              logical =
                  either (λ (f : ℕ → Bool). Rests T.processes f false) x.logical_first _ _
                  (written r true lr b.flags.logical) b.flags.logical;
              saved = b.flags.saved;
              closed =
                  either (λ (f : ℕ → Bool). Rests T.channels f false) x.closes _ _
                  (written c true l b.flags.closed) b.flags.closed;
              sent = b.flags.sent;
            };
        counts =
            all_raised T x.logs s.counts
            (reaction_logs (Planned T) s.round.phase c (receiver_at s r) e lr l) b.counts;
      })
    where
      r : ℕ
      r = receiver T c

      lr : r < T.processes
      lr = receiver_planned T good c l

      x : Reaction
      x = reaction s c e

      turned : Rests T.processes (upd s.tag r (not (s.tag r))) false
      turned = written r (not (s.tag r)) lr b.tag

  -- the physical phase goes on
  physical_beyond : (q : ℕ) (y : GlobalState) → Beyond T y → Beyond T (physical_from q y)
  unfolding physical_from physical_at in_phase with_round with_progress
  physical_beyond q y b = go (first_early y.topology.processes y.topology.late q)
    where
      go : (o : Option ℕ) → Beyond T (physical_at o y)
      go (some p) = b
      go none =
          record { word = b.word; tag = b.tag; channel = b.channel; flags = no_flags T; counts = b.counts }

  effect_beyond : (x : Step) → Prior s x → Beyond T (effect s x).state
  unfolding effect quietly after_physical end_round record_saved record_sent logical_checkpoint plain_channels
      has_channel with_round with_progress with_tag with_channel with_counts with_logical with_saved with_sent
      set_entries
  effect_beyond (Send c x) l =
      record {
        word = b.word;
        tag = b.tag;
        channel = written c _ l b.channel;
        flags = b.flags;
        counts = b.counts;
      }
  effect_beyond (Receive c) p = receive_beyond c p.planned (s.channel c) p.entry
  effect_beyond Begin p =
      physical_beyond 0 (with_counts no_counts s)
      (record { word = b.word; tag = b.tag; channel = b.channel; flags = b.flags; counts = no_counts_lem T })
  effect_beyond (PhysicalCheckpoint q) p =
      either (Beyond T) (is_late T q) _ _
      (record {
        word = b.word;
        tag = b.tag;
        channel = b.channel;
        flags =
            record {
              logical = b.flags.logical;
              saved = written q true p.planned b.flags.saved;
              closed = b.flags.closed;
              sent = b.flags.sent;
            };
        counts = b.counts;
      })
      (physical_beyond (q + 1) s b)
  effect_beyond (LogicalCheckpoint q) p =
      record {
        word = b.word;
        tag = written q _ p.planned b.tag;
        channel = b.channel;
        flags =
            record {
              logical = written q true p.planned b.flags.logical;
              saved = b.flags.saved;
              closed = b.flags.closed;
              sent = b.flags.sent;
            };
        counts = b.counts;
      }
  effect_beyond (SendMarker c) p =
      record {
        word = b.word;
        tag = b.tag;
        channel = written c _ p.planned b.channel;
        flags =
            record {
              logical = b.flags.logical;
              saved = b.flags.saved;
              closed = b.flags.closed;
              sent = written c true p.planned b.flags.sent;
            };
        counts = b.counts;
      }
  effect_beyond Commit p =
      record { word = b.word; tag = b.tag; channel = b.channel; flags = no_flags T; counts = b.counts }
  effect_beyond Abort p =
      record {
        word = b.word;
        tag = λ p l. refl;
        channel = λ c l. rw (le-ltb c T.channels l) (b.channel c l);
        flags = no_flags T;
        counts = b.counts;
      }

  pub answer_beyond : (x : Step) (st : List ℕ) (budget : ℕ) → Beyond T (answer s x st budget).state
  answer_beyond x st budget = go (answer_cases s x st budget)
    where
      go : Answering s x st budget → Beyond T (answer s x st budget).state
      go (unheard z e) = rw e b
      go (answers a e) = rw e (effect_beyond x a.prior)

-- setup and recover
pub idle_beyond : (T : Topology) (k : ℕ) (word : ℕ → ℕ) (channel : ℕ → List Entry) → Rests T.processes word 0
    → Rests T.channels channel [] → Beyond T (idle_state T k word channel)
unfolding idle_state
idle_beyond T k word channel w c =
    record { word = w; tag = λ p l. refl; channel = c; flags = no_flags T; counts = no_counts_lem T }
