-- Document 01: "A round is idle, copying or marking; the state holds which." Copying is the physical phase, with the
-- next process to have its physical checkpoint; marking is the logical phase.
use Rattle.std.specs.Prelude.{ℕ, Bool, true, false, eqb}
use Rattle.model.specs.declared.Phase.{Phase}
use Rattle.model.specs.declared.Phase.TheVariants.{Idle, Physical, Logical}

abbrev pub is_idle : Phase → Bool
is_idle Idle = true
is_idle (Physical next) = false
is_idle Logical = false

abbrev pub is_logical : Phase → Bool
is_logical Idle = false
is_logical (Physical next) = false
is_logical Logical = true

-- "in copying, boards in rising order"
abbrev pub is_next : Phase → ℕ → Bool
is_next Idle p = false
is_next (Physical next) p = eqb p next
is_next Logical p = false
