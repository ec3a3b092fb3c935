-- What `sound` says: a record with a name for each clause, of the whole state, from the test and back to it.
use Prim.Native.Nat.{ℕ, ◌<◌, ◌≤◌}
use mathlib.Core.Path.{◌≡◌, refl}
use mathlib.Core.Bool.{true}
use mathlib.Core.List.{List}
use mathlib.Core.Option.{Option, none, some}
use lib.ListN.{length}
use borrow.Author.Tests.{leb-true, le-leb}
use Rattle.model.specs.declared.Topology.{Topology}
use Rattle.model.specs.declared.Entry.{Entry}
use Rattle.model.specs.Check.{accepts}
use Rattle.model.specs.Topology.{topology_refusal}
use Rattle.model.specs.Channel.{channel_room}
use Rattle.model.specs.Layout.{Log, message_log, channel_log, places}
use Rattle.model.specs.State.{GlobalState, LogCounts, count_of}
use Rattle.model.specs.Sound.{ChannelRule, topology_sound, channel_sound, channel_sound_by, log_sound, phase_sound}
use Rattle.model.specs.Sound.{line_sound, sound_by, sound}
use Rattle.model.proofs.laws.Tests.{true_is_not_false, all_hold, hold_all}
use Rattle.model.proofs.laws.Lists.{all_at, all_of}
use Rattle.model.proofs.laws.TopologyLaws.{Planned}

-- every planned log's count, by the state, is within its places
abbrev pub Fits : Topology → LogCounts → Type 0
Fits T counts = (log : Log) → Planned T log → count_of counts log ≤ places log

-- the clauses of `sound`, with a rule for channels
pub record SoundBy (rule : ChannelRule) (s : GlobalState) : Type 0 where
  pub topology : topology_refusal s.topology ≡ none
  pub channels : (c : ℕ) → c < s.topology.channels → channel_sound_by rule s c ≡ true
  pub logs : Fits s.topology s.counts
  pub phase : phase_sound s.topology s.round.phase ≡ true
  pub line : line_sound s.round ≡ true

abbrev pub Sound : GlobalState → Type 0
Sound s = SoundBy channel_sound s

accepts_none : (o : Option ℕ) → accepts o ≡ true → o ≡ none
unfolding accepts
accepts_none none e = refl
accepts_none (some r) e = true_is_not_false e refl

module _ (rule : ChannelRule) (s : GlobalState) where
  pub sound_clauses : sound_by rule s ≡ true → SoundBy rule s
  unfolding sound_by topology_sound log_sound
  sound_clauses e =
      let (topology, (channels, (messageLogs, (channelLogs, (phase, (line, _)))))) = all_hold _ e in
      record {
        topology = accepts_none _ topology;
        channels = all_at s.topology.channels (channel_sound_by rule s) channels;
        logs = fits (all_at _ _ messageLogs) (all_at _ _ channelLogs);
        phase = phase;
        line = line;
      }
    where
      fits : ((p : ℕ) → p < s.topology.processes → log_sound s.counts (message_log p) ≡ true)
          → ((c : ℕ) → c < s.topology.channels → log_sound s.counts (channel_log c) ≡ true)
          → Fits s.topology s.counts
      fits m c (message_log p) l = leb-true _ _ (m p l)
      fits m c (channel_log d) l = leb-true _ _ (c d l)

  pub clauses_sound : SoundBy rule s → sound_by rule s ≡ true
  unfolding sound_by topology_sound log_sound accepts
  clauses_sound h =
      hold_all _ (
        rw h.topology,
        (
          all_of s.topology.channels (channel_sound_by rule s) h.channels,
          (
            all_of _ _ (λ p l. le-leb _ _ (h.logs (message_log p) l)),
            (all_of _ _ (λ c l. le-leb _ _ (h.logs (channel_log c) l)), (h.phase, (h.line, tt))),
          ),
        ),
      )

module _ (s : GlobalState) where
  pub sound_facts : sound s ≡ true → Sound s
  unfolding sound
  sound_facts e = sound_clauses channel_sound s e

  pub facts_sound : Sound s → sound s ≡ true
  unfolding sound
  facts_sound h = clauses_sound channel_sound s h

-- what a channel may hold
abbrev pub RoomFits : List Entry → Type 0
RoomFits es = length es ≤ channel_room

module _ (s : GlobalState) where
  pub entries_fit : Sound s → (c : ℕ) → c < s.topology.channels → RoomFits (s.channel c)
  unfolding channel_sound_by channel_sound
  entries_fit h c l = leb-true _ _ (h.channels c l)

  pub fit_sound : (c : ℕ) → RoomFits (s.channel c) → channel_sound_by channel_sound s c ≡ true
  unfolding channel_sound_by channel_sound
  fit_sound c h = le-leb _ _ h
