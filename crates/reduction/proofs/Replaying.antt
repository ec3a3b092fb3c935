-- Laws of a run of calls from a state and a store on, one call after the other, up to the first that is refused.
use Rattle.std.proofs.Common.{◌≡◌, ℕ, suc, ◌+◌, ◌<◌, ◌≤◌, List, [], ◌∷◌, ◌++◌, map, length, get_or, set, drop}
use Rattle.std.proofs.Common.{replicate, refl, sym, ap, ◌∙◌, append_assoc, append-nil, add-one, length-append}
use Rattle.std.specs.Prelude.{Result, Ok, Err, Some, None}
use mathlib.Core.Option.{none, some}
use lib.ListN.{length-map, drop_of_length-le, get_or-map}
use lib.Seq.{drop-cons}
use Rattle.model.specs.declared.Record.{Record}
use Rattle.model.specs.declared.Record.TheVariants.{Recover}
use Rattle.model.specs.declared.Refusal.{Refusal}
use Rattle.model.specs.declared.State.{State}
use Rattle.model.specs.declared.Topology.{Topology}
use Rattle.model.specs.Outcome.{refusal_number, refusal_of, refused_with, room_said}
use Rattle.model.specs.State.{view}
use Rattle.model.specs.Program.{full_budget, serve}
use Rattle.model.specs.Run.{Call, World, Reply, reply_to, next, trace}
use Rattle.model.specs.ProgramsAreRuns.{call_with}
use Rattle.model.specs.CallList.{list_limit, first_from, rooms_of}
use Rattle.model.proofs.laws.CallLists.{served, fails_here, fails_later, rooms_end, rooms_go_on}
use Rattle.reduction.specs.Parts.{padded}
use Rattle.reduction.specs.Replays.{start_world, replies_from, Replays}
use Rattle.reduction.proofs.Parts.{one_padded}
use Rattle.reduction.proofs.Turning.{Turns}

abbrev full : List Record → List Call
full calls = map (call_with full_budget) calls

-- The first i calls were accepted and led to this state and store. The first failure of the others is that of all the
-- replies; what the first ones said of room and what the others say is what all say; and the array has the first.
pub record Replaying (T : Topology) (calls : List Record) (all : List Reply) (s : State) (store places : List ℕ) (i : ℕ)
    : Type 0 where
  pub world : World
  pub state_is : world.state ≡ view s
  pub store_is : world.store ≡ store
  pub later : first_from i (trace T world (drop i (full calls))) ≡ first_from 0 all
  pub earlier : List ℕ
  pub counted : length earlier ≡ i
  pub rooms : earlier ++ rooms_of (trace T world (drop i (full calls))) ≡ rooms_of all
  pub filled : places ≡ padded earlier

pub replay_starts : {T : Topology} {calls : List Record} {s : State} {store : List ℕ}
    → Replaying T calls (replies_from T s store calls) s store (replicate list_limit 0) 0
replay_starts {s = s} {store} =
    record {
      world = start_world s store;
      state_is = refl;
      store_is = refl;
      later = refl;
      earlier = [];
      counted = refl;
      rooms = refl;
      filled = refl;
    }

module _ {T : Topology} {calls : List Record} {all : List Reply} {s : State} {store places : List ℕ} {i : ℕ}
    (p : Replaying T calls all s store places i) where
  -- no more is said of room than the array has
  rooms_filled : rooms_of (trace T p.world (drop i (full calls))) ≡ [] → places ≡ padded (rooms_of all)
  rooms_filled e =
      let whole : p.earlier ≡ rooms_of all = rw (e, append-nil p.earlier) at p.rooms in p.filled ∙ ap padded whole

  pub replay_ends : length calls ≤ i → Replays all (record { refused = None; rooms = places })
  unfolding trace first_from rooms_of
  replay_ends l =
      let over : drop i (full calls) ≡ [] = drop_of_length-le (full calls) {i = i} (rw length-map l) in
      record {
        end = sym (ap (λ (cs : List Call). first_from i (trace T p.world cs)) over) ∙ p.later;
        rooms = rooms_filled (ap (λ (cs : List Call). rooms_of (trace T p.world cs)) over);
      }

  module _ (l : i < length calls) {content : Record} (here : get_or calls i Recover ≡ content) {r : Result ℕ Refusal}
      {t : State} {left : List ℕ} (m : Turns (serve T (view s) store full_budget content) r t left) where
    abbrev c : Call
    c = call_with full_budget content

    abbrev others : List Call
    others = drop (suc i) (full calls)

    splits : drop i (full calls) ≡ c ∷ others
    splits =
        drop-cons (full calls) i (call_with full_budget Recover) (rw length-map l)
        ∙ rw (get_or-map (call_with full_budget) calls i Recover, here)

    -- the call as it is answered in the run
    replied : serve T (view s) store full_budget content
        ≡ record {
          said = (reply_to T p.world c).outcome;
          made = (reply_to T p.world c).made;
          state = (next T p.world c).state;
          store = (next T p.world c).store;
        }
    replied = rw (← p.state_is, ← p.store_is) (served T p.world full_budget content)

    turned : Turns (record {
      said = (reply_to T p.world c).outcome;
      made = (reply_to T p.world c).made;
      state = (next T p.world c).state;
      store = (next T p.world c).store;
    }) r t left
    turned = rw replied at m

    from_here : first_from i (trace T p.world (c ∷ others)) ≡ first_from 0 all
    from_here = ap (λ (cs : List Call). first_from i (trace T p.world cs)) (sym splits) ∙ p.later

    pub replay_fails : {n : Refusal} → r ≡ Err n
        → Replays all (record { refused = Some (record { place = i; refusal = n }); rooms = places })
    unfolding refusal_of
    replay_fails {n} e =
        let refused : refused_with (reply_to T p.world c).outcome ≡ some (refusal_number n) =
        sym turned.says.refusal ∙ rw e in
        record {
          end = sym (fails_here T i p.world c others (refusal_number n) refused) ∙ from_here;
          rooms =
              rooms_filled
              (ap (λ (cs : List Call). rooms_of (trace T p.world cs)) splits
              ∙ rooms_end T p.world c others refused);
        }

    -- an accepted call
    pub replay_goes_on : i < list_limit → {room : ℕ} → r ≡ Ok room
        → Replaying T calls all t left (set places i room) (i + 1)
    unfolding refusal_of
    replay_goes_on few {room} e =
        let w : World = next T p.world c in
        let accepted : refused_with (reply_to T p.world c).outcome ≡ none = sym turned.says.refusal ∙ rw e in
        let said : room ≡ room_said (reply_to T p.world c).outcome = rw e at turned.says.room in
        let more : rooms_of (trace T p.world (drop i (full calls))) ≡ room ∷ rooms_of (trace T w others) =
        rw (splits, rooms_go_on T p.world c others accepted, ← said) in
        record {
          world = w;
          state_is = sym turned.state;
          store_is = sym turned.store;
          later =
              ap (λ (n : ℕ). first_from (i + 1) (trace T w (drop n (full calls)))) (add-one i)
              ∙ (sym (fails_later T i p.world c others accepted) ∙ from_here);
          earlier = p.earlier ++ (room ∷ []);
          counted = length-append p.earlier (room ∷ []) ∙ rw p.counted;
          rooms = rw (add-one, append_assoc p.earlier (room ∷ []), ← more) p.rooms;
          filled = rw p.filled (one_padded p.earlier i room p.counted few);
        }
