-- Laws of the whole answer: each refusal in its order, and a part.
use Rattle.std.proofs.Common.{◌≡◌, ℕ, ◌<◌, ◌≤◌, List, length, leb, sym, arith}
use Rattle.std.specs.Prelude.{Ok, Err}
use mathlib.Core.Option.{Option, none, some, or_else}
use borrow.Author.Tests.{lt-ltb, le-ltb, leb-true, leb-false}
use Rattle.model.specs.declared.Topology.{Topology}
use Rattle.model.specs.declared.Record.{Record}
use Rattle.model.specs.declared.Refusal.{Refusal}
use Rattle.model.specs.Check.{first_refusal}
use Rattle.model.specs.Outcome.{refusal_number}
use Rattle.model.specs.Topology.{topology_refusal}
use Rattle.model.specs.CallList.{list_limit, Failure, first_failure, replies, rooms}
use Rattle.model.specs.Reduction.{refuses, finds, list_refusal, calls_at, sought_by, sought, Smallest}
use Rattle.model.proofs.laws.Tests.{Tested, test, holds, fails}
use Rattle.reduction.specs.declared.part.Part.{Part}
use Rattle.reduction.specs.declared.replay.Refused.{Refused}
use Rattle.reduction.specs.declared.replay.Replayed.{Replayed}
use Rattle.reduction.specs.Parts.{kept, Held}
use Rattle.reduction.specs.Replays.{failure_of, Replays}
use Rattle.reduction.specs.Reduces.{Reduces}

module _ (T : Topology) (calls : List Record) where
  -- 18, then the plan's, then 17 or the failure
  pub sought_long : list_limit < length calls → sought T calls ≡ refuses 18
  unfolding sought sought_by list_refusal or_else first_refusal
  sought_long l = rw (lt-ltb list_limit (length calls) l)

  module _ (few : length calls ≤ list_limit) where
    pub sought_plan : {n : ℕ} → topology_refusal T ≡ some n → sought T calls ≡ refuses n
    unfolding sought sought_by list_refusal or_else first_refusal
    sought_plan e = rw (le-ltb list_limit (length calls) few, e)

    pub sought_none : topology_refusal T ≡ none → first_failure T calls ≡ none → sought T calls ≡ refuses 17
    unfolding sought sought_by list_refusal or_else first_refusal
    sought_none e f = rw (le-ltb list_limit (length calls) few, e, f)

    pub sought_failure : {f : Failure} → topology_refusal T ≡ none → first_failure T calls ≡ some f
        → sought T calls ≡ finds f
    unfolding sought sought_by list_refusal or_else first_refusal
    sought_failure e f = rw (le-ltb list_limit (length calls) few, e, f)

  -- what is found is the list's first failure, and the list isn't too long
  pub found_first : {f : Failure} → sought T calls ≡ finds f → first_failure T calls ≡ some f
  unfolding sought sought_by
  found_first {f} e = go (list_refusal T calls) (first_failure T calls) e
    where
      go : (x : Option ℕ) (y : Option Failure) → sought_by x y ≡ finds f → y ≡ some f
      go (some n) y q = cc
      go none none q = cc
      go none (some g) q = cc

  pub found_few : {f : Failure} → sought T calls ≡ finds f → length calls ≤ list_limit
  found_few {f} e = go (test (leb (length calls) list_limit))
    where
      go : Tested (leb (length calls) list_limit) → length calls ≤ list_limit
      go (holds t) = leb-true _ _ t
      go (fails t) =
          let long : sought T calls ≡ refuses 18 = sought_long (leb-false (length calls) list_limit t) in
          let absurdly : length calls ≡ list_limit = cc in
          omega (arith, absurdly)

  pub refused_reduces : (r : Refusal) → sought T calls ≡ refuses (refusal_number r) → Reduces T calls (Err r)
  refused_reduces r e = record { answer = sym e; parted = tt }

  -- a part that was found, and replayed once more
  pub failure_reduces : (f : Refused) {part : Part} {x : Replayed} → sought T calls ≡ finds (failure_of f) → Held part
      → Smallest T calls (failure_of f) (kept part) → Replays (replies T (calls_at calls (kept part))) x
      → Reduces T calls (Ok (record { place = f.place; refusal = f.refusal; part = part; rooms = x.rooms }))
  unfolding rooms
  failure_reduces f e held s m =
      record { answer = sym e; parted = record { part = rw e s; held = held; rooms = m.rooms } }
