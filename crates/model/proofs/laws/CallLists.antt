-- Laws of lists of calls: a call is answered as `head` serves it; a list's first failure, and what its sends say of
-- room, taken call by call.
use Prim.Native.Nat.{ℕ, ◌+◌}
use mathlib.Core.Path.{◌≡◌, refl}
use mathlib.Core.List.{List, [], ◌∷◌}
use mathlib.Core.Option.{none, some}
use Rattle.model.specs.declared.Topology.{Topology}
use Rattle.model.specs.declared.Record.{Record}
use Rattle.model.specs.declared.Record.TheVariants as records
use Rattle.model.specs.Outcome.{refused_with, room_said}
use Rattle.model.specs.Program.{of_answer, of_startup, serve}
use Rattle.model.specs.Run.{Call, World, reply_to, next, trace, state_after, store_after}
use Rattle.model.specs.ProgramsAreRuns.{call_with}
use Rattle.model.specs.CallList.{failure_or, first_from, rooms_unless, rooms_of}

module _ (T : Topology) where
  -- a record is served as its call is answered
  pub served : (w : World) (budget : ℕ) (content : Record)
      → let c : Call = call_with budget content in
      serve T w.state w.store budget content
      ≡ record {
        said = (reply_to T w c).outcome;
        made = (reply_to T w c).made;
        state = (next T w c).state;
        store = (next T w c).store;
      }
  unfolding call_with serve of_answer of_startup reply_to next state_after store_after
  served w budget (records.Call x) = refl
  served w budget records.Recover = refl

  -- the first of these calls is refused, or the first failure is one of the others'
  module _ (place : ℕ) (w : World) (c : Call) (cs : List Call) where
    pub fails_here : (n : ℕ) → refused_with (reply_to T w c).outcome ≡ some n
        → first_from place (trace T w (c ∷ cs)) ≡ some (record { place = place; number = n })
    unfolding trace first_from failure_or
    fails_here n e = rw e

    pub fails_later : refused_with (reply_to T w c).outcome ≡ none
        → first_from place (trace T w (c ∷ cs)) ≡ first_from (place + 1) (trace T (next T w c) cs)
    unfolding trace first_from failure_or
    fails_later e = rw e

  -- what the first of these calls says of room, unless it is refused
  module _ (w : World) (c : Call) (cs : List Call) where
    pub rooms_end : {n : ℕ} → refused_with (reply_to T w c).outcome ≡ some n → rooms_of (trace T w (c ∷ cs)) ≡ []
    unfolding trace rooms_of rooms_unless
    rooms_end e = rw e

    pub rooms_go_on : refused_with (reply_to T w c).outcome ≡ none
        → rooms_of (trace T w (c ∷ cs)) ≡ room_said (reply_to T w c).outcome ∷ rooms_of (trace T (next T w c) cs)
    unfolding trace rooms_of rooms_unless
    rooms_go_on e = rw e
