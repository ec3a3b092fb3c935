-- The whole output of the test program `drill`: as `head`, with a budget before each record, a store that starts full
-- of rubbish, and the cells that differ at the end.
use Rattle.std.specs.Prelude.{ℕ, List, ◌++◌}
use Rattle.model.specs.Program.{given, Played, played}
use Rattle.report.specs.Text.{output_text}
use Rattle.report.specs.Changed.{start_store, changed_text}

-- last, after boards and wires; where the plan is refused, no cell differs
unfoldable pub drill_text : List ℕ → List ℕ
drill_text input =
    let x : Played = played given start_store input in
    output_text x.output ++ changed_text x.store
