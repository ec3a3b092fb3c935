-- The step of a kind, with only the fields that the kind uses.
use Rattle.std.specs.Prelude.{ℕ, cond, eqb, Result, Ok, Err}
use Rattle.std.proofs.Math.Option.{Option, none, some}
use Rattle.model.specs.declared.Record.TheVariants.{Call}
use Rattle.model.specs.declared.Step.{Step}
use Rattle.model.specs.declared.Step.TheVariants.{Send, Receive, Begin, PhysicalCheckpoint, LogicalCheckpoint}
use Rattle.model.specs.declared.Step.TheVariants.{SendMarker, Commit, Abort}
use Rattle.model.specs.declared.Refusal.{Refusal}
use Rattle.model.specs.Outcome.{refusal_number}
use Rattle.record.specs.RecordRead.{RecordSaid, record_is, refuses}

-- "A step is a kind with only the fields it uses": "send uses wire and body; take and note wire; copy and mark board".
-- The other fields may be anything. Kinds 1 to 8 are steps, "as numbered above; 9 is restart"; no other number is one.
unfoldable pub step_of : ℕ → ℕ → ℕ → ℕ → Option Step
step_of kind process channel body =
    cond (eqb kind 1) (some (Send channel body))
    (cond (eqb kind 2) (some (Receive channel))
    (cond (eqb kind 3) (some Begin)
    (cond (eqb kind 4) (some (PhysicalCheckpoint process))
    (cond (eqb kind 5) (some (LogicalCheckpoint process))
    (cond (eqb kind 6) (some (SendMarker channel))
    (cond (eqb kind 7) (some Commit)
    (cond (eqb kind 8) (some Abort) none)))))))

-- what each case of the code's answer says
abbrev pub step_said : Result Step Refusal → RecordSaid
step_said (Ok s) = record_is (Call s)
step_said (Err x) = refuses (refusal_number x)

-- "All else is 7."
unfoldable pub step_in : Option Step → RecordSaid
step_in none = refuses 7
step_in (some s) = record_is (Call s)
