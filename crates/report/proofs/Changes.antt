-- Laws of a store's cells: the store at first, and the line of each cell that differs from it.
use Prim.Native.Nat.{ℕ}
use mathlib.Core.Path.{◌≡◌}
use mathlib.Core.List.{List, []}
use lib.ListN.{length, get_or}
use borrow.Author.Tests.{eq-eqb, ne_eqb}
use Rattle.model.specs.Layout.{store_cells, cell}
use Rattle.model.proofs.laws.Lists.{tabulate_length}
use Rattle.report.specs.Text.{cell_text}
use Rattle.report.specs.Changed.{start_cell, start_store, changed_line}

pub start_length : length start_store ≡ store_cells
unfolding start_store
start_length = tabulate_length store_cells start_cell

-- a cell's line, if it has one
module _ (store : List ℕ) (i : ℕ) where
  pub same_cell : get_or store i 0 ≡ start_cell i → changed_line store i ≡ []
  unfolding cell changed_line
  same_cell e = rw (eq-eqb _ _ e)

  pub other_cell : (get_or store i 0 ≡ start_cell i → ⊥) → changed_line store i ≡ cell_text i (get_or store i 0)
  unfolding cell changed_line
  other_cell n = rw (ne_eqb _ _ n)
