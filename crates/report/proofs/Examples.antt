-- The examples hold of the definitions: one fact over the table, by computation.
use mathlib.Core.Path.{refl}
use Rattle.model.specs.CaseInputs as inputs
use Rattle.model.proofs.Computing.{computing}
use Rattle.report.specs.Text as text
use Rattle.report.specs.Hex as hex
use Rattle.report.specs.Examples as examples
use Rattle.report.specs.Examples.{ExamplesHold}

pub examples_hold : ExamplesHold
unfolding
    computing
    inputs.input
    text.digits text.decimal text.values text.said_name text.said_text text.line_text text.lines_text text.output_text
    hex.hex_digit hex.spaced_bytes hex.hex_bytes
    examples.lines examples.examples
examples_hold = refl
