-- "A restart by the target's rules gives the words, wires and line number that the source's gives, there and back." Of
-- any two forms, any source that isn't refused, and whatever the target held before.
use Rattle.std.specs.Prelude.{ℕ, ◌≤◌, ◌≡◌, List, length, Result}
use Rattle.std.proofs.Math.Option.{none}
use Rattle.model.specs.declared.Topology.{Topology}
use Rattle.model.specs.declared.Refusal.{Refusal}
use Rattle.model.specs.Outcome.{refusal_of}
use Rattle.model.specs.Form.{Form, store_cells}
use Rattle.model.specs.Recover.{recover}
use Rattle.migration.specs.Carry.{carry}
use Rattle.migration.specs.Carries.{Carries}

-- A restart of the store, by the rules of form G, is accepted, and gives the state that one of the source gives by the
-- rules of form F: words, wires and line number, and the rest of an idle state.
pub record Alike (F G : Form) (T : Topology) (source store : List ℕ) : Type 0 where
  pub accepted : (recover G T store).refusal ≡ none
  pub state : (recover G T store).state ≡ (recover F T source).state

-- there
abbrev pub Faithful : Type 0
Faithful =
    (F G : Form) (T : Topology) (source target : List ℕ) → (carry F G T source target).refusal ≡ none
    → Alike F G T source (carry F G T source target).target

-- the same of the code: of whatever keeps the promise of `upgrade` or `downgrade` and answers no refusal
abbrev pub FaithfulOfCode : Type 0
FaithfulOfCode =
    (F G : Form) (T : Topology) (source before after : List ℕ) (r : Result (Unit {0}) Refusal)
    → Carries (carry F G T source before) r after → refusal_of r ≡ none → Alike F G T source after

-- and back, into a third slice
pub record Returns (F G : Form) (T : Topology) (source there back : List ℕ) : Type 0 where
  pub accepted : (carry G F T there back).refusal ≡ none
  pub alike : Alike F F T source (carry G F T there back).target

abbrev pub ThereAndBack : Type 0
ThereAndBack =
    (F G : Form) (T : Topology) (source target back : List ℕ) → (carry F G T source target).refusal ≡ none
    → store_cells F ≤ length back
    → Returns F G T source (carry F G T source target).target back
