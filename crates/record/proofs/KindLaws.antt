-- The rows of the definitions' table of kinds: where a row is there and the kind isn't 9, it is the kind's step.
use Rattle.std.proofs.Common.{◌≡◌, ℕ, Bool, true, false, refl, arith}
use Rattle.std.proofs.lemmas.Grind.{common_steps}
use Rattle.std.proofs.Math.Option.{Option, none, some}
use Rattle.model.specs.declared.Record.{Record}
use Rattle.model.specs.declared.Record.TheVariants.{Call}
use Rattle.model.specs.declared.Step.{Step}
use Rattle.model.specs.Record.{provided, record_of}
use Rattle.record.specs.StepRead.{step_of, step_in}
use Rattle.record.specs.RecordRead.{record_is, refuses}
use Rattle.record.specs.Kind.{fields, is_record}

-- no row is there
pub no_row : (o : Option Record) → is_record o ≡ false → o ≡ none
unfolding is_record
no_row none e = refl
no_row (some r) e = grind arith

-- a row is there
pub row_there : (t : Bool) (r : Record) → is_record (provided t r) ≡ true → provided t r ≡ some r
unfolding provided is_record
row_there true r e = refl
row_there false r e = grind arith

-- a step's row, if any
abbrev pub as_call : Option Step → Option Record
as_call none = none
as_call (some s) = some (Call s)

pub step_row : (k p c b : ℕ) → is_record (record_of (fields k p c b)) ≡ true → (k ≡ 9 → ⊥)
    → record_of (fields k p c b) ≡ as_call (step_of k p c b)
unfolding record_of step_of provided is_record
step_row k p c b e n = grind (arith, common_steps)

-- what was said of a kind's step
pub a_step : (o : Option Step) (s : Step) → record_is (Call s) ≡ step_in o → o ≡ some s
unfolding step_in
a_step none s e = cc
a_step (some t) s e = cc

pub no_step : (o : Option Step) (n : ℕ) → refuses n ≡ step_in o → o ≡ none
unfolding step_in
no_step none n e = refl
no_step (some t) n e = cc

-- what the check needs where the fields don't fit, and of the recover
pub ruleset rows = (no_row, row_there)
