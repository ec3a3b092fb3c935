-- What is known where nothing is refused, that the source can be read and the target is long enough; and the two ways
-- in which the promise is met.
use Prim.Native.Nat.{ℕ}
use mathlib.Core.Path.{◌≡◌, refl}
use mathlib.Core.List.{List, [], ◌∷◌}
use mathlib.Core.Option.{Option, none, some}
use lib.ListN.{length}
use lib.Dec.{ltb}
use borrow.Author.Tests.{ltb-false}
use Rattle.model.specs.declared.Topology.{Topology}
use Rattle.std.specs.Prelude.{Result}
use Rattle.model.specs.declared.Refusal.{Refusal}
use Rattle.model.specs.Outcome.{refusal_of}
use Rattle.model.specs.Check.{Check, ◌gives◌, first_refusal}
use Rattle.model.specs.Topology.{topology_refusal}
use Rattle.model.specs.Form.{Form, store_cells}
use Rattle.model.specs.Recover.{recover_refusal}
use Rattle.model.proofs.laws.Lists.{or_else_none}
use Rattle.model.proofs.laws.Passing.{passed}
use Rattle.model.proofs.store.Sizes.{Sized}
use Rattle.model.proofs.store.Readable.{Readable, readable, readable_topology}
use Rattle.migration.specs.Carry.{carry_refusal, carried_or}
use Rattle.migration.specs.Carries.{Carries}

pub record Carriable (F G : Form) (T : Topology) (source target : List ℕ) : Type 0 where
  pub accepted : recover_refusal F T source ≡ none
  pub topology : topology_refusal T ≡ none
  pub readable : Readable F T source
  pub sized : Sized G T target

pub carriable : {F G : Form} {T : Topology} {source target : List ℕ}
    → carry_refusal F G T source (length target) ≡ none → Carriable F G T source target
unfolding carry_refusal
carriable {F} {G} {T} {source} {target} e =
    let check : List Check = (ltb (length target) (store_cells G) gives 6) ∷ [] in
    let (accepted, long) = or_else_none (recover_refusal F T source) (first_refusal check) e in
    let known = readable F T source accepted in
    record {
      accepted = accepted;
      topology = readable_topology F T source accepted;
      readable = known;
      sized = record {
        processes = known.sized.processes;
        channels = known.sized.channels;
        cells = ltb-false (length target) (store_cells G) (passed check long).0;
      };
    }

-- what is refused is what the checks refuse
pub carried_refusal : (o : Option ℕ) (after before : List ℕ) → (carried_or o after before).refusal ≡ o
unfolding carried_or
carried_refusal none after before = refl
carried_refusal (some n) after before = refl

module _ (after before : List ℕ) (r : Result (Unit {0}) Refusal) {o : Option ℕ} (said : refusal_of r ≡ o) where
  pub carries_done : o ≡ none → Carries (carried_or o after before) r after
  unfolding carried_or
  carries_done e = rw e (record { verdict = rw e at said; target = refl })

  pub carries_refused : (n : ℕ) → o ≡ some n → Carries (carried_or o after before) r before
  unfolding carried_or
  carries_refused n e = rw e (record { verdict = rw e at said; target = refl })
