-- Laws of initialize and recover: the two ways in which they answer, how initialize's arrays are seen, and what recover
-- makes of one process and of one channel.
use Prim.Native.Nat.{ℕ}
use mathlib.Core.Path.{◌≡◌, refl, ap, ap₂}
use mathlib.Core.Bool.{false}
use mathlib.Core.List.{List, []}
use mathlib.Core.Option.{Option, none, some}
use Rattle.std.specs.Prelude.{Result, Ok, Err}
use lib.ListN.{get_or, replicate}
use Rattle.model.specs.declared.Places.{Places}
use Rattle.model.specs.declared.Entry.{Entry}
use Rattle.model.specs.declared.State.{State}
use Rattle.model.specs.declared.Refusal.{Refusal}
use Rattle.model.specs.declared.Topology.{Topology}
use Rattle.model.specs.Notation.{tabulate}
use Rattle.model.specs.Topology.{process_limit, channel_limit, has_process, has_channel, is_late}
use Rattle.model.specs.Channel.{held, entries, messages}
use Rattle.model.specs.Layout.{logged}
use Rattle.model.specs.State.{GlobalState, view, idle_state, no_places, entries_in}
use Rattle.model.specs.Outcome.{refusal_of}
use Rattle.model.specs.Start.{startup_or, stored_line, restored}
use Rattle.model.specs.Start.{recovered_word, recovered_channel}
use Rattle.model.specs.Recover as recovery
use Rattle.model.proofs.laws.Functions.{seen_replicate, filled_below}
use Rattle.recovery.specs.Starts.{Starts}

-- the two ways in which initialize and recover answer
module _ (s : GlobalState) (after before : List ℕ) {o : Option ℕ} where
  pub starts_ready : {r : State} → o ≡ none → view r ≡ s → Starts (startup_or o s after before) (Ok r) after
  unfolding startup_or
  starts_ready e v = rw e (record { start = refl; state = v; store = refl })

  pub starts_refused : {n : ℕ} (r : Result State Refusal) → o ≡ some n → refusal_of r ≡ some n
      → Starts (startup_or o s after before) r before
  unfolding startup_or refusal_of
  starts_refused (Ok x) e q = absurd (cc q)
  starts_refused (Err x) e q = rw e (record { start = q; state = refl; store = refl })

-- arrays of empty channels and of 0
pub no_entries : (places : List Places)
    → ◌≡◌ {A = ℕ → List Entry} (entries_in places (replicate channel_limit 0)) (λ c. [])
unfolding entries tabulate
no_entries places =
    ap (λ (n : ℕ → ℕ). λ (c : ℕ). entries (held (get_or places c no_places) (n c))) (seen_replicate channel_limit 0)

pub initial_state : (T : Topology) (places : List Places)
    → idle_state T 0 (λ p. get_or (replicate process_limit 0) p 0) (entries_in places (replicate channel_limit 0))
    ≡ idle_state T 0 (λ p. 0) (λ c. [])
initial_state T places = ap₂ (idle_state T 0) (seen_replicate process_limit 0) (no_entries places)

-- what recover makes of one process and of one channel
abbrev pub word_of : Topology → List ℕ → ℕ → ℕ
word_of T st p = restored (is_late T p) st (stored_line st) p

abbrev pub channel_of : List ℕ → ℕ → List Entry
channel_of st c = messages false (logged st (stored_line st) c)

pub words_below : (T : Topology) (st : List ℕ) → filled_below T.processes (word_of T st) 0 ≡ recovered_word T st
unfolding recovery.recovered_word has_process
words_below T st = refl

pub channels_below : (T : Topology) (st : List ℕ) → filled_below T.channels (channel_of st) [] ≡ recovered_channel T st
unfolding recovery.recovered_channel has_channel
channels_below T st = refl
