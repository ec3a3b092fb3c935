-- What the table of kinds decides.
use Rattle.std.specs.Prelude.{ℕ, Bool, true, false, Some, None}
use Rattle.std.specs.Prelude as std
use Rattle.std.proofs.Math.Option.{Option, none, some}
use Rattle.model.specs.declared.Record.{Record}
use Rattle.model.specs.Record.{Fields}

abbrev pub fields : ℕ → ℕ → ℕ → ℕ → Fields
fields kind process channel body = record { kind = kind; process = process; channel = channel; body = body }

-- whether a row is there
unfoldable pub is_record : Option Record → Bool
is_record none = false
is_record (some r) = true

-- the row that the code found, if any
abbrev pub found : std.Option Record → Option Record
found None = none
found (Some r) = some r
