-- What initialize and recover promise: everything that comes back, and the store after it, is what the definition has.
-- Open in the state, which is judged by its view, are the unused places of channels; there is no marker in it. The
-- store is the one that stands when the call returns.
use Rattle.std.specs.Prelude.{ℕ, ◌≡◌, List, get_or, Result, Ok, Err}
use Rattle.std.proofs.Math.Option.{none, some}
use Rattle.model.specs.declared.Entry.{Entry}
use Rattle.model.specs.declared.State.{State}
use Rattle.model.specs.declared.Refusal.{Refusal}
use Rattle.model.specs.Outcome.{refusal_number}
use Rattle.model.specs.State.{view, blank_state, entries_in}
use Rattle.model.specs.Start.{Startup}
use Rattle.recovery.specs.declared.start.Filled.{Filled}

-- what is answered: a state, or a number, beside which stands the blank state; and the store after it
abbrev pub startup_of : Result State Refusal → List ℕ → Startup
startup_of (Ok s) store = record { refusal = none; state = view s; store = store }
startup_of (Err r) store = record { refusal = some (refusal_number r); state = blank_state; store = store }

pub record Starts (b : Startup) (r : Result State Refusal) (after : List ℕ) : Type 0 where
  pub start : (startup_of r after).refusal ≡ b.refusal
  pub state : (startup_of r after).state ≡ b.state
  pub store : after ≡ b.store

-- how an array of words is seen, and what channels were filled with
abbrev pub words_seen : List ℕ → ℕ → ℕ
words_seen words = λ p. get_or words p 0

abbrev pub channels_seen : Filled → ℕ → List Entry
channels_seen f = entries_in f.places f.lengths
