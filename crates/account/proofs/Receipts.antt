-- What the past tells of the round, the tags, the flags and the counts, after a receive: by what the entry does to its
-- receiver, and by the stores made, which tell the logs.
use Prim.Native.Nat.{ℕ, ◌+◌, ◌<◌}
use mathlib.Core.Path.{◌≡◌, refl, ap, fun_ext, ◌∙◌}
use mathlib.Core.Bool.{Bool, true, false, cond, not, ◌&&◌, ◌||◌, beq}
use mathlib.Core.List.{List, [], ◌∷◌, ◌++◌}
use lib.ListN.{length}
use lib.Dec.{ltb, eqb}
use borrow.Author.Tests.{eq-eqb, ne_eqb}
use Rattle.model.specs.declared.Topology.{Topology}
use Rattle.model.specs.declared.Receipt.{Receipt}
use Rattle.model.specs.declared.Receiver.{Receiver}
use Rattle.model.specs.declared.Phase.{Phase}
use Rattle.model.specs.declared.Phase.TheVariants.{Idle, Physical, Logical}
use Rattle.model.specs.declared.Entry.TheVariants.{Message, Marker}
use Rattle.model.specs.declared.Step.TheVariants.{Receive}
use Rattle.model.specs.declared.Record.TheVariants as records
use Rattle.model.specs.Notation.{upd}
use Rattle.model.specs.Topology.{receiver}
use Rattle.model.specs.Phase.{is_logical}
use Rattle.model.specs.Layout.{Log, message_log, channel_log}
use Rattle.model.specs.State.{GlobalState, Progress, LogCounts, raised, raised_all}
use Rattle.model.specs.Heard.{Heard}
use Rattle.model.specs.Heard as hears
use Rattle.model.specs.Receive.{Reaction, logs_only, log_if, in_message_log, reaction_to, receiver_at}
use Rattle.model.specs.Write.{logs_writes, log_writes, append_writes, cell_writes}
use Rattle.model.specs.Step.{next_line}
use Rattle.model.specs.Record.{fields_of}
use Rattle.model.proofs.laws.Tests.{true_is_not_false, Tested, holds, fails, test}
use Rattle.model.proofs.laws.Functions.{Indices, same, other, indices, upd_at, upd_other}
use Rattle.model.proofs.laws.Receiving.{after_receive}
use Rattle.account.specs.Deeds.{Past, deed_by, any, number, since}
use Rattle.account.specs.Round.{line_of, phase_of, turned, this_round}
use Rattle.account.specs.Progress.{closed_in, marker_sent, saved_in}
use Rattle.account.specs.Logs.{since_clear, messages_logged, channel_logged}
use Rattle.account.specs.Contents.{turned_by}
use Rattle.account.proofs.Told.{account_of, Told, raised_flag, marked_tag}

-- one more counted at i
raised_count : (f g : ℕ → ℕ) (i : ℕ) → f ≡ g → upd f i (f i + 1) ≡ (λ (j : ℕ). cond (eqb i j) (g j + 1) (g j))
raised_count f g i e = fun_ext (λ j. go j (indices i j))
  where
    at : (j : ℕ) → f j ≡ g j
    at j = ap (λ (h : ℕ → ℕ). h j) e

    go : (j : ℕ) → Indices i j → upd f i (f i + 1) j ≡ cond (eqb i j) (g j + 1) (g j)
    go j (same is) = upd_at f i j (f i + 1) is ∙ rw (eq-eqb i j is) (ap (λ (n : ℕ). n + 1) (ap f is ∙ at j))
    go j (other n) = upd_other f i j (f i + 1) n ∙ at j ∙ rw (ne_eqb i j n)

-- What a message does to its receiver: the logs it goes into, of the two that there are; whether it gives the receiver
-- its logical checkpoint, which is in the logical phase alone, where the receiver has none; it closes no channel.
pub record Delivers (phase : Phase) (c : ℕ) (r : Receiver) (x : Reaction) : Type 0 where
  pub channel : Bool
  pub message : Bool
  pub logs : x.logs ≡ log_if channel (channel_log c) ++ log_if message (message_log r.process)
  pub unclosed : x.closes ≡ false
  pub unmarked : x.logical_first ≡ true → r.logical ≡ false
  pub quiet : is_logical phase ≡ false → x.logical_first ≡ false

not_first : (a b : Bool) → (not a && b) ≡ true → a ≡ false
not_first true b e = true_is_not_false e refl
not_first false b e = refl

pub delivers : (phase : Phase) (c : ℕ) (r : Receiver) (b : ℕ) (t : Bool)
    → Delivers phase c r (reaction_to phase c r (Message b t))
unfolding reaction_to logs_only
delivers Idle c r b t =
    record {
      channel = false;
      message = false;
      logs = refl;
      unclosed = refl;
      unmarked = λ e. true_is_not_false e refl;
      quiet = λ e. refl;
    }
delivers (Physical next) c r b t =
    record {
      channel = false;
      message = ltb r.process next && not r.late;
      logs = refl;
      unclosed = refl;
      unmarked = λ e. true_is_not_false e refl;
      quiet = λ e. refl;
    }
delivers Logical c r b t =
    let differs : Bool = not (beq t r.tag) in
    record {
      channel = r.logical && differs;
      message = in_message_log r.late (r.logical || differs) r.saved;
      logs = refl;
      unclosed = refl;
      unmarked = not_first r.logical differs;
      quiet = λ e. true_is_not_false refl e;
    }

module _ (s : GlobalState) (past : Past) (i : Told s.topology s past) (c : ℕ) where
  abbrev T : Topology
  T = s.topology

  abbrev r : ℕ
  r = receiver T c

  -- the deed, by what was heard and by how many stores were made
  abbrev received : Heard → ℕ → Past
  received o made = deed_by (fields_of (records.Call (Receive c))) o made ∷ past

  -- one entry more in the message log, and in the channel log
  one_message : upd s.counts.messages r (s.counts.messages r + 1)
      ≡ (λ (p : ℕ). cond (eqb r p) (messages_logged T p past + 1) (messages_logged T p past))
  one_message = raised_count s.counts.messages _ r (ap (λ (n : LogCounts). n.messages) i.counts)

  one_channel : upd s.counts.channels c (s.counts.channels c + 1)
      ≡ (λ (d : ℕ). cond (eqb c d) (channel_logged d past + 1) (channel_logged d past))
  one_channel = raised_count s.counts.channels _ c (ap (λ (n : LogCounts). n.channels) i.counts)

  -- the stores tell the logs
  logs_told : (b : ℕ) (channel message : Bool) (receipt : Receipt)
      → let logs : List Log = log_if channel (channel_log c) ++ log_if message (message_log r) in
      raised_all logs s.counts
      ≡ (account_of T (received (hears.body b) (length (logs_writes (next_line s) s.counts logs receipt)))).counts
  unfolding logs_writes log_writes append_writes cell_writes raised_all raised deed_by fields_of number since
      messages_logged channel_logged since_clear
  logs_told b false false receipt = i.counts
  logs_told b false true receipt = λ j. record { messages = one_message j; channels = (i.counts j).channels }
  logs_told b true false receipt = λ j. record { messages = (i.counts j).messages; channels = one_channel j }
  logs_told b true true receipt = λ j. record { messages = one_message j; channels = one_channel j }

  -- the state after it; neither the entries left nor the words are looked at
  abbrev after : Reaction → GlobalState
  after x = after_receive x c r [] s.word s

  -- a message, by what it does to its receiver
  pub message_told : (b : ℕ) (receipt : Receipt) (x : Reaction)
      → Delivers s.round.phase c (receiver_at s r) x
      → Told T (after x)
      (received (hears.body b) (length (logs_writes (next_line s) s.counts x.logs receipt)))
  unfolding deed_by fields_of line_of number phase_of saved_in closed_in marker_sent this_round since any turned
  message_told b receipt x d =
      rw (d.logs, d.unclosed)
      (record {
        round = i.round;
        tag = λ p l. tagged p l (test x.logical_first);
        saved = i.saved;
        closed = i.closed;
        sent = i.sent;
        counts = logs_told b d.channel d.message receipt;
        quiet = λ e. rw (d.quiet e) (ap as_it_is (i.quiet e));
      })
    where
      tagged : (p : ℕ) → p < T.processes → Tested x.logical_first
          → cond x.logical_first (upd s.tag r (not (s.tag r))) s.tag p
          ≡ turned_by (turned past) (cond x.logical_first (upd s.progress.logical r true) s.progress.logical p)
      tagged p l (holds e) =
          rw e (marked_tag s.tag s.progress.logical (turned past) r p (d.unmarked e) (i.tag p l))
      tagged p l (fails e) = rw e (i.tag p l)

      as_it_is : Progress → Progress
      as_it_is f = record { logical = f.logical; saved = f.saved; closed = f.closed; sent = f.sent }

  -- a marker, in the logical phase
  pub marker_received : (receipt : Receipt) (x : Reaction) → is_logical s.round.phase ≡ true
      → x ≡ reaction_to Logical c (receiver_at s r) Marker
      → Told T (after x)
      (received hears.marker (length (logs_writes (next_line s) s.counts x.logs receipt)))
  unfolding reaction_to raised_all logs_writes deed_by fields_of line_of number phase_of saved_in closed_in marker_sent
      this_round since any messages_logged channel_logged since_clear turned
  marker_received receipt x logical is =
      rw is
      (record {
        round = i.round;
        tag = λ p l. tagged p l (test (s.progress.logical r));
        saved = i.saved;
        closed = raised_flag s.progress.closed (λ d. closed_in d past) c i.closed;
        sent = i.sent;
        counts = i.counts;
        quiet = λ e. true_is_not_false logical e;
      })
    where
      tagged : (p : ℕ) → p < T.processes → Tested (s.progress.logical r)
          → cond (not (s.progress.logical r)) (upd s.tag r (not (s.tag r))) s.tag p
          ≡ turned_by (turned past)
          (cond (not (s.progress.logical r)) (upd s.progress.logical r true) s.progress.logical p)
      tagged p l (holds e) = rw e (i.tag p l)
      tagged p l (fails e) =
          rw e (marked_tag s.tag s.progress.logical (turned past) r p e (i.tag p l))
