-- The sizes that an accepted topology and a store that is long enough for its form have, and that writes keep.
use Prim.Native.Nat.{ℕ, ◌≤◌}
use mathlib.Core.Path.{◌≡◌}
use mathlib.Core.List.{List, [], ◌∷◌}
use mathlib.Core.Option.{none}
use lib.ListN.{length}
use lib.Dec.{ltb}
use borrow.Author.Tests.{ltb-false}
use Rattle.model.specs.declared.Topology.{Topology}
use Rattle.model.specs.Check.{Check, ◌gives◌, first_refusal}
use Rattle.model.specs.Topology.{process_limit, channel_limit, topology_refusal}
use Rattle.model.specs.Form.{Form, store_cells}
use Rattle.model.specs.Write.{Write, write_all}
use Rattle.model.specs.Recover.{initialize_refusal}
use Rattle.model.proofs.laws.Lists.{or_else_none}
use Rattle.model.proofs.laws.Passing.{passed}
use Rattle.model.proofs.laws.TopologyLaws.{accepted_sizes}
use Rattle.model.proofs.store.Writes.{length_write_all}

pub record Sized (F : Form) (T : Topology) (st : List ℕ) : Type 0 where
  pub processes : T.processes ≤ process_limit
  pub channels : T.channels ≤ channel_limit
  pub cells : store_cells F ≤ length st

pub sized_topology : (F : Form) (T : Topology) (st : List ℕ) → topology_refusal T ≡ none → store_cells F ≤ length st
    → Sized F T st
sized_topology F T st e l =
    let fit = accepted_sizes T e in record { processes = fit.processes; channels = fit.channels; cells = l }

module _ (F : Form) where
  -- what refusals 1 to 5, 19 and 6 leave: the topology is accepted, and the store is long enough
  pub admitted : (T : Topology) (cells : ℕ) → initialize_refusal F T cells ≡ none
      → (topology_refusal T ≡ none) × (store_cells F ≤ cells)
  unfolding initialize_refusal
  admitted T cells e =
      let check : List Check = (ltb cells (store_cells F) gives 6) ∷ [] in
      let (topology, long) = or_else_none (topology_refusal T) (first_refusal check) e in
      (topology, ltb-false cells (store_cells F) (passed check long).0)

  pub sized_start : (T : Topology) (st : List ℕ) → initialize_refusal F T (length st) ≡ none → Sized F T st
  sized_start T st e = let (topology, long) = admitted T (length st) e in sized_topology F T st topology long

module _ {F : Form} where
  pub sized_after : {T : Topology} {st : List ℕ} → Sized F T st → (ws : List Write) → Sized F T (write_all st ws)
  sized_after {st} sized ws =
      record {
        processes = sized.processes;
        channels = sized.channels;
        cells = rw (length_write_all st ws) sized.cells;
      }
