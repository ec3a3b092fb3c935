-- What a program shows of a store: it starts full of rubbish, and the cells that differ from that have a line each.
use Rattle.std.specs.Prelude.{ℕ, ◌*◌, ◌%◌, cond, List, [], eqb}
use Rattle.model.specs.Notation.{tabulate, concat_below}
use Rattle.model.specs.Layout.{store_cells, cell}
use Rattle.report.specs.Text.{cell_text}

-- cell i starts as 2,654,435,761 × i modulo 2^32
abbrev pub start_cell : ℕ → ℕ
start_cell i = 2654435761 * i % 4294967296

unfoldable pub start_store : List ℕ
start_store = tabulate store_cells start_cell

-- a line `cell i v` for each cell, rising, that then differs from its starting value
unfoldable pub changed_line : List ℕ → ℕ → List ℕ
changed_line store i = cond (eqb (cell store i) (start_cell i)) [] (cell_text i (cell store i))

unfoldable pub changed_text : List ℕ → List ℕ
changed_text store = concat_below store_cells (changed_line store)
