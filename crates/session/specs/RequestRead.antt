-- A request as the code reads it: where its budget comes from, and what its reading says.
use Rattle.std.specs.Prelude.{ℕ, List, Option, Some, None}
use Rattle.std.specs.Borrow.{Bor}
use Rattle.std.proofs.Math.Option.{none, some}
use Rattle.model.specs.Record as model
use Rattle.model.specs.Program as program
use Rattle.session.specs.declared.request.BudgetSource.{BudgetSource}
use Rattle.session.specs.declared.request.BudgetSource.TheVariants.{Full, Given}
use Rattle.session.specs.declared.request.Request.{Request}

abbrev pub source_of : BudgetSource → program.BudgetSource
source_of Full = program.full
source_of Given = program.given

-- a request and the bytes after it, or nothing, in terms of the definition's reading
abbrev pub requested : Option (Request × Bor (List ℕ)) → model.Reading program.Request
requested None = none
requested (Some r) = some (record { content = r.0.«record»; budget = r.0.budget }, r.1.now)
