-- Questions 2 and 3, a store carried to the new form and back. They are asked of a plan as `head` has it, and then the
-- source's cells, 4 bytes each, lowest first.
use Rattle.std.specs.Prelude.{ℕ, ◌+◌, ◌*◌, ◌/◌, ◌%◌, Bool, true, false, List, length, get_or, drop, eqb}
use Rattle.std.specs.Prelude.{Result, Ok, Err}
use Rattle.std.proofs.Math.Option.{Option, none, some}
use Rattle.model.specs.declared.Topology.{Topology}
use Rattle.model.specs.Notation.{tabulate}
use Rattle.model.specs.Form.{Form}
use Rattle.model.specs.Layout.{present}
use Rattle.model.specs.Program.{plan_of, plan_length, plan_refusal}
use Rattle.model.specs.Record.{lowest_first}
use Rattle.reading.specs.Old.{old}
use Rattle.migration.specs.Carry.{Carried, carry}
use Rattle.operator.specs.declared.carry.Way.{Way}
use Rattle.operator.specs.declared.carry.Way.TheVariants.{Upgrade, Downgrade}
use Rattle.operator.specs.declared.refused.Refused.{Refused}
use Rattle.operator.specs.ConsoleAnswer.{ConsoleAnswer, plan_refused, refused, carried, refused_in}

-- the forms that a store is carried from and to
abbrev pub source_form : Way → Form
source_form Upgrade = old
source_form Downgrade = present

abbrev pub target_form : Way → Form
target_form Upgrade = present
target_form Downgrade = old

-- the i-th cell in the bytes, and all of them
unfoldable pub cell_in : List ℕ → ℕ → ℕ
cell_in bytes i =
    let byte : ℕ → ℕ = λ k. get_or bytes k 0 in
    let at : ℕ = 4 * i in
    lowest_first (byte at) (byte (at + 1)) (byte (at + 2)) (byte (at + 3))

unfoldable pub cells_in : List ℕ → List ℕ
cells_in bytes = tabulate (length bytes / 4) (cell_in bytes)

-- whether the bytes are cells: else they are 7
abbrev pub are_cells : List ℕ → Bool
are_cells bytes = eqb (length bytes % 4) 0

-- the carrying is refused, or done
unfoldable pub carried_answer : Option ℕ → List ℕ → ConsoleAnswer
carried_answer (some n) target = refused n
carried_answer none target = carried target

unfoldable pub cells_answer : Bool → Form → Form → Topology → List ℕ → List ℕ → ConsoleAnswer
cells_answer false F G T bytes target = refused 7
cells_answer true F G T bytes target =
    let x : Carried = carry F G T (cells_in bytes) target in carried_answer x.refusal x.target

-- all of this after the plan's checks, whose refusals are told as the plan's
unfoldable pub source_answer : Option ℕ → Form → Form → List ℕ → List ℕ → ConsoleAnswer
source_answer (some n) F G bytes target = plan_refused n
source_answer none F G bytes target =
    let cells : List ℕ = drop (plan_length bytes) bytes in
    cells_answer (are_cells cells) F G (plan_of bytes) cells target

-- what is answered to a plan and a source of form F, with a target of form G that holds this
unfoldable pub carrying : Form → Form → List ℕ → List ℕ → ConsoleAnswer
carrying F G bytes target = source_answer (plan_refusal bytes) F G bytes target

-- what each case of the code's answer says, with what the target then holds
abbrev pub ending_in : Result (Unit {0}) Refused → List ℕ → ConsoleAnswer
ending_in (Ok x) target = carried target
ending_in (Err r) target = refused_in r
