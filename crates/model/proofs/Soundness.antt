-- No call makes a state unsound (the statement is Soundness of specs/Soundness.antt).
use Prim.Native.Nat.{ℕ, ◌+◌, ◌<◌, ◌≤◌}
use mathlib.Core.Path.{◌≡◌, refl, sym, ap, ◌∙◌}
use mathlib.Core.Bool.{Bool, true, false, not, ◌||◌}
use mathlib.Core.List.{List, [], ◌∷◌}
use mathlib.Core.Option.{Option, none}
use lib.ListN.{length, length-append, length-map}
use lib.Dec.{leb, eqb}
use borrow.Author.Tests.{leb-true, leb-false, lt-ltb, eqb-false, not-true, not-false}
use native.Mathlib.Omega.{arith}
use Rattle.model.specs.declared.Topology.{Topology}
use Rattle.model.specs.declared.Phase.{Phase}
use Rattle.model.specs.declared.Phase.TheVariants.{Idle, Physical, Logical}
use Rattle.model.specs.declared.Entry.{Entry}
use Rattle.model.specs.declared.Entry.TheVariants.{Message, Marker}
use Rattle.model.specs.declared.Step.{Step}
use Rattle.model.specs.declared.Step.TheVariants.{Send, Receive, Begin, PhysicalCheckpoint}
use Rattle.model.specs.declared.Step.TheVariants.{LogicalCheckpoint, SendMarker, Commit, Abort}
use Rattle.model.specs.Notation.{all_below}
use Rattle.model.specs.Topology.{has_process, has_channel, is_late, topology_refusal}
use Rattle.model.specs.Channel.{room_left, messages, no_room_for_message, no_room_for_marker}
use Rattle.model.specs.Phase.{is_idle, is_next}
use Rattle.model.specs.Layout.{present, Log, message_log, channel_log, places, entries_from}
use Rattle.model.specs.State.{GlobalState, LogCounts, count_of, raised, raised_all, idle_state, no_counts}
use Rattle.model.specs.Sound.{ChannelRule, channel_sound, channel_sound_by, phase_sound, line_sound, last_line, sound}
use Rattle.model.specs.Soundness.{Soundness}
use Rattle.model.specs.Change.{with_round, with_tag, with_channel, with_progress, with_counts, in_phase, set_entries}
use Rattle.model.specs.Change.{logical_checkpoint, record_saved, record_sent, end_round}
use Rattle.model.specs.Receive.{any_full}
use Rattle.model.specs.Step.{room_checks, log_checks, quietly, reaction, first_reaction, receive}
use Rattle.model.specs.Step.{physical_at, physical_from, after_physical, effect, answer}
use Rattle.model.specs.Start.{startup_or, initialize_refusal, initialize, stored_line, counts_fit}
use Rattle.model.specs.Start.{recover_refusal, recovered_word, recovered_channel, recover}
use Rattle.model.specs.Form as form
use Rattle.model.specs.Recover as recovery
use Rattle.model.proofs.laws.Tests.{and_right, or_left, or_right, true_is_not_false}
use Rattle.model.proofs.laws.Functions.{upd_all, upd_other}
use Rattle.model.proofs.laws.Lists.{tabulate_length, all_at, or_else_none}
use Rattle.model.proofs.laws.ChannelLaws.{bodies_length}
use Rattle.model.proofs.laws.ChannelEffects.{Becomes, stays, message, marker, taken, plain, effect_becomes}
use Rattle.model.proofs.laws.TopologyLaws.{FirstEarly, at, none_left, first_early_lem}
use Rattle.model.proofs.laws.ReceiveLaws.{Unlike, Apart, reaction_apart}
use Rattle.model.proofs.laws.SoundLaws.{Fits, SoundBy, Sound, sound_facts, facts_sound, RoomFits, entries_fit}
use Rattle.model.proofs.laws.SoundLaws.{fit_sound}
use Rattle.model.proofs.laws.Passing.{Passed, Turn, early, late, Prior, passed}
use Rattle.model.proofs.laws.Calls.{Accepted, Answering, unheard, answers, answer_cases}
use Rattle.model.proofs.laws.Calls.{initialize_refusal_lem, recover_refusal_lem}
use Rattle.model.proofs.laws.Effects.{effect_topology}
use Rattle.model.proofs.laws.Receiving.{receive_takes}
use Rattle.model.proofs.store.Sizes.{admitted}

-- every planned channel is sound by a rule
abbrev pub ChannelsBy : ChannelRule → GlobalState → Type 0
ChannelsBy rule x = (c : ℕ) → c < x.topology.channels → channel_sound_by rule x c ≡ true

-- logs count one entry more, where they aren't full
raised_fits : (T : Topology) (log : Log) (n : LogCounts) → count_of n log < places log → Fits T n
    → Fits T (raised log n)
unfolding raised
raised_fits T (message_log p) n l h (message_log q) k =
    upd_all (λ m. m ≤ places (message_log q)) T.processes n.messages p _ (omega arith) (λ j. h (message_log j)) q k
raised_fits T (message_log p) n l h (channel_log d) k = h (channel_log d) k
raised_fits T (channel_log c) n l h (message_log q) k = h (message_log q) k
raised_fits T (channel_log c) n l h (channel_log d) k =
    upd_all (λ m. m ≤ places (channel_log d)) T.channels n.channels c _ (omega arith) (λ j. h (channel_log j)) d k

-- the count of another log stays
raised_other : (log other : Log) (n : LogCounts) → (log ≡ other → ⊥) → count_of (raised log n) other ≡ count_of n other
unfolding raised
raised_other (message_log p) (message_log q) n o = upd_other n.messages p q _ (λ e. o (ap message_log e))
raised_other (message_log p) (channel_log c) n o = refl
raised_other (channel_log c) (message_log p) n o = refl
raised_other (channel_log c) (channel_log d) n o = upd_other n.channels c d _ (λ e. o (ap channel_log e))

full_other : (log : Log) (logs : List Log) (n : LogCounts) → Unlike log logs
    → any_full (raised log n) logs ≡ any_full n logs
unfolding any_full
full_other log [] n u = refl
full_other log (other ∷ logs) n u = rw (raised_other log other n u.0, full_other log logs n u.1)

all_raised_fits : (T : Topology) (logs : List Log) (n : LogCounts) → Apart logs → any_full n logs ≡ false → Fits T n
    → Fits T (raised_all logs n)
unfolding any_full raised_all
all_raised_fits T [] n a f h = h
all_raised_fits T (log ∷ logs) n a f h =
    all_raised_fits T logs (raised log n) a.1
    (full_other log logs n a.0 ∙ or_right (leb (places log) (count_of n log)) _ f)
    (raised_fits T log n (leb-false _ _ (or_left (leb (places log) (count_of n log)) _ f)) h)

-- no log has an entry
none_counted : (T : Topology) → Fits T no_counts
unfolding no_counts
none_counted T (message_log p) l = omega arith
none_counted T (channel_log c) l = omega arith

-- where a process is the next to have its physical checkpoint the round isn't idle, so its line isn't the last
not_last : (phase : Phase) (p : ℕ) (t : Bool) → is_next phase p ≡ true → (is_idle phase || not t) ≡ true → t ≡ false
not_last Idle p t e l = true_is_not_false e refl
not_last (Physical next) p t e l = not-true t l
not_last Logical p t e l = true_is_not_false e refl

-- Every clause but the channels' is kept by an accepted step, whatever the rule for channels is.
module _ (rule : ChannelRule) (s : GlobalState) (h : SoundBy rule s) where
  abbrev After : GlobalState → Type 0
  After x = ChannelsBy rule x → SoundBy rule x

  -- a state with other channels, tags, words and progress
  as_it_was : (x : GlobalState) → x.topology ≡ s.topology → x.round ≡ s.round → x.counts ≡ s.counts → After x
  as_it_was x same round counts channels =
      record {
        topology = rw same h.topology;
        channels = channels;
        logs = rw (same, counts) h.logs;
        phase = rw (same, round) h.phase;
        line = rw round h.line;
      }

  received_by : (c : ℕ) (es : List Entry) → any_full s.counts (first_reaction s c es).logs ≡ false
      → After (receive s c es).state
  unfolding receive quietly first_reaction reaction
  received_by c [] f = as_it_was s refl refl refl
  received_by c (e ∷ es) f =
      rw (receive_takes s c e es)
      (λ channels.
      record {
        topology = h.topology;
        channels = channels;
        logs = all_raised_fits s.topology _ s.counts (reaction_apart s.round.phase c _ e) f h.logs;
        phase = h.phase;
        line = h.line;
      })

  -- the physical phase goes on at an early process of the topology, or the logical phase starts; not at the last line
  goes_on : (x : GlobalState) (from : ℕ) → x.topology ≡ s.topology → Fits s.topology x.counts
      → eqb x.round.line last_line ≡ false → After (physical_from from x)
  unfolding physical_from physical_at in_phase with_round with_progress phase_sound line_sound has_process is_late
  goes_on x from same fits line = go (first_early_lem x.topology.processes x.topology.late from)
    where
      go : {o : Option ℕ} → FirstEarly x.topology.processes x.topology.late from o → After (physical_at o x)
      go (at {p} l _ e _) channels =
          record {
            topology = rw same h.topology;
            channels = channels;
            logs = rw same fits;
            phase = rw (lt-ltb p x.topology.processes l, e);
            line = rw line;
          }
      go (none_left _) channels =
          record {
            topology = rw same h.topology;
            channels = channels;
            logs = rw same fits;
            phase = refl;
            line = rw line;
          }

  after_physical_lem : (p : ℕ) → Turn s p → After (after_physical s p)
  unfolding after_physical record_saved with_progress line_sound
  after_physical_lem p (early e next) =
      rw e (goes_on s (p + 1) refl h.logs (not_last s.round.phase p _ next h.line))
  after_physical_lem p (late e _ _ _) = rw e (as_it_was _ refl refl refl)

  pub effect_clauses : (x : Step) → Prior s x → Passed (log_checks s x) → After (effect s x).state
  unfolding effect quietly set_entries with_channel logical_checkpoint with_tag with_progress with_counts record_sent
      end_round with_round phase_sound line_sound log_checks
  effect_clauses (Send c b) p q = as_it_was _ refl refl refl
  effect_clauses (Receive c) p q = received_by c (s.channel c) q.0
  effect_clauses Begin p q = goes_on (with_counts no_counts s) 0 refl (none_counted s.topology) p.line
  effect_clauses (PhysicalCheckpoint r) p q = after_physical_lem r p.turn
  effect_clauses (LogicalCheckpoint r) p q = as_it_was _ refl refl refl
  effect_clauses (SendMarker c) p q = as_it_was _ refl refl refl
  effect_clauses Commit p q =
      λ channels. record { topology = h.topology; channels = channels; logs = h.logs; phase = refl; line = refl }
  effect_clauses Abort p q =
      λ channels. record { topology = h.topology; channels = channels; logs = h.logs; phase = refl; line = refl }

-- what a channel may hold, after a step that finds room
becomes_fit : (s : GlobalState) (c : ℕ) (x : Step) (es : List Entry) → Passed (room_checks s x) → RoomFits (s.channel c)
    → Becomes s c x es → RoomFits es
unfolding room_checks no_room_for_message no_room_for_marker messages
becomes_fit s c x es room h stays = h
becomes_fit s c x es room h (message b) =
    rw (length-append (s.channel c) (Message b _ ∷ []))
    (omega (arith, eqb-false (room_left (s.channel c)) 0 room.0))
becomes_fit s c x es room h marker =
    rw (length-append (s.channel c) (Marker ∷ [])) (omega (arith, eqb-false (room_left (s.channel c)) 0 room.0))
becomes_fit s c x es room h (taken e rest q) = omega (arith, rw q at h)
becomes_fit s c x es room h plain = rw length-map (omega (arith, h, bodies_length (s.channel c)))

effect_sound : (s : GlobalState) (cells : ℕ) (x : Step) → Accepted s cells x → Sound s → Sound (effect s x).state
effect_sound s cells x a h =
    effect_clauses channel_sound s h x a.prior a.logs
    (λ c l.
    let planned : c < s.topology.channels = rw (effect_topology s x) at l in
    fit_sound (effect s x).state c (becomes_fit s c x _ a.room (entries_fit s h c planned) (effect_becomes s x c)))

pub answer_sound : (s : GlobalState) (x : Step) (store : List ℕ) (budget : ℕ) → sound s ≡ true
    → sound (answer s x store budget).state ≡ true
answer_sound s x store budget h = go (answer_cases s x store budget)
  where
    go : Answering s x store budget → sound (answer s x store budget).state ≡ true
    go (unheard o e) = rw e h
    go (answers a e) =
        rw e (facts_sound (effect s x).state (effect_sound s (length store) x a (sound_facts s h)))

-- an idle state with no log counts owes only what its topology and its channels do
idle_sound : (T : Topology) (k : ℕ) (word : ℕ → ℕ) (channel : ℕ → List Entry) → topology_refusal T ≡ none
    → ((c : ℕ) → c < T.channels → RoomFits (channel c)) → sound (idle_state T k word channel) ≡ true
unfolding idle_state phase_sound line_sound
idle_sound T k word channel e l =
    facts_sound (idle_state T k word channel)
    (record {
      topology = e;
      channels = λ c p. fit_sound (idle_state T k word channel) c (l c p);
      logs = none_counted T;
      phase = refl;
      line = refl;
    })

pub initialize_sound : (T : Topology) (store : List ℕ) → (initialize T store).refusal ≡ none
    → sound (initialize T store).state ≡ true
unfolding initialize startup_or
initialize_sound T store e =
    let n : initialize_refusal T (length store) ≡ none = sym (initialize_refusal_lem T store) ∙ e in
    rw n
    (idle_sound T 0 (λ p. 0) (λ c. []) (admitted present T (length store) n).0
    (λ c l. omega arith))

-- a channel filled from its log is as long as the log's count, which fits
recovered_fits : (T : Topology) (store : List ℕ) → counts_fit T store ≡ true → (c : ℕ) → c < T.channels
    → RoomFits (recovered_channel T store c)
unfolding
    recovery.counts_fit recovery.count_fits recovery.recovered_channel has_channel messages form.logged form.bodies_by
    form.entries_by entries_from
recovered_fits T store e c l =
    rw (lt-ltb c T.channels l, length-map, length-map, tabulate_length)
    (leb-true _ _ (all_at T.channels _ (and_right (all_below T.processes _) _ e) c l))

pub recover_sound : (T : Topology) (store : List ℕ) → (recover T store).refusal ≡ none
    → sound (recover T store).state ≡ true
unfolding recovery.recover recovery.recover_refusal startup_or
recover_sound T store e =
    let n : recover_refusal T store ≡ none = sym (recover_refusal_lem T store) ∙ e in
    let (first, fits) = or_else_none (initialize_refusal T (length store)) _ n in
    rw n
    (idle_sound T (stored_line store) (recovered_word T store) (recovered_channel T store)
    (admitted present T (length store) first).0
    (recovered_fits T store (not-false (counts_fit T store) (passed _ fits).0)))

pub soundness : Soundness
soundness = record { steps = answer_sound; initializes = initialize_sound; recovers = recover_sound }
