-- What one reading of the code says, in terms of the definitions' readings.
use Rattle.std.specs.Prelude.{ℕ, List, Some, None, Option}
use Rattle.std.specs.Borrow.{Bor}
use Rattle.std.proofs.Math.Option.{none, some}
use Rattle.model.specs.Record.{Reading}

-- a value and the bytes after it, or nothing
abbrev pub reading_of : {A : Type 0} → Option (A × Bor (List ℕ)) → Reading A
reading_of None = none
reading_of (Some r) = some (r.0, r.1.now)
