-- What the program `converter` prints. Its input is that of `console`'s questions 2 and 3, and it says the same; but
-- where `console` shows the cells that have changed, it has the whole store, as the bytes of its cells.
use Rattle.std.specs.Prelude.{ℕ, ◌+◌, ◌*◌, ◌≡◌, List, [], replicate, Option, Some, None, Result, Ok, Err}
use Rattle.model.specs.Notation.{concat_below}
use Rattle.model.specs.Form as form
use Rattle.model.specs.Layout.{store_cells, cell}
use Rattle.model.specs.Record.{body_bytes}
use Rattle.report.specs.Hex.{refused_text}
use Rattle.operator.specs.declared.carry.Way.{Way}
use Rattle.operator.specs.declared.Question.{Question}
use Rattle.operator.specs.declared.Question.TheVariants.{Reduction, Carry, Replay}
use Rattle.operator.specs.declared.refused.Refused.{Refused}
use Rattle.operator.specs.Carrying.{source_form, target_form, carrying}
use Rattle.operator.specs.Console.{asked_in, taken_in}
use Rattle.operator.specs.ConsoleAnswer.{ConsoleAnswer, refused_in}
use Rattle.operator.specs.ConsoleText.{answer_text, line_of, done_bytes}
use Rattle.report.specs.Appends.{Appends}

-- the first n cells of a store, 4 bytes each, lowest first
unfoldable pub cells_bytes : ℕ → List ℕ → List ℕ
cells_bytes n store = concat_below n (λ i. body_bytes (cell store i))

-- all that the target's form has
abbrev pub file_text : form.Form → ConsoleAnswer → List ℕ
file_text G x = answer_text (cells_bytes (form.store_cells G)) x []

-- a store, carried into one that starts as zeros, as a new file has them; nothing else is known here
unfoldable pub file_to : Option Question → List ℕ → List ℕ
file_to (Some Reduction) bytes = refused_text 7
file_to (Some (Carry w)) bytes =
    file_text (target_form w) (carrying (source_form w) (target_form w) bytes (replicate store_cells 0))
file_to (Some Replay) bytes = refused_text 7
file_to None bytes = refused_text 7

unfoldable pub file : List ℕ → List ℕ
file input = file_to (asked_in input) (taken_in input)

-- how many bytes it has at most, with the new form's cells: 21,257
abbrev pub file_bytes : ℕ
file_bytes = done_bytes + store_cells * 4

-- What the functions behind it promise: the text from the buffer's start on; or a refusal, with the buffer as it was,
-- that is the answer to the carrying, or whose line is all of the text.
abbrev pub FilesStore : Way → List ℕ → List ℕ → List ℕ → Result ℕ Refused → Type 0
FilesStore w bytes before after (Ok n) = Appends file_bytes before 0 (file_to (Some (Carry w)) bytes) after n
FilesStore w bytes before after (Err r) =
    (after ≡ before) × (refused_in r ≡ carrying (source_form w) (target_form w) bytes (replicate store_cells 0))

abbrev pub Files : List ℕ → List ℕ → List ℕ → Result ℕ Refused → Type 0
Files text before after (Ok n) = Appends file_bytes before 0 text after n
Files text before after (Err r) = (after ≡ before) × (text ≡ line_of (refused_in r))
