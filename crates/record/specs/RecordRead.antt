-- What the reader's two functions answer: the two parts of one reading by the definition.
use Rattle.std.specs.Prelude.{ℕ, List, Result, Ok, Err}
use Rattle.std.proofs.Math.Option.{none, some}
use Rattle.model.specs.declared.Record.{Record}
use Rattle.model.specs.declared.Refusal.{Refusal}
use Rattle.model.specs.Outcome.{refusal_number}
use Rattle.model.specs.Record as model

-- what a reading says: the record, or document 01's number of the refusal
pub data RecordSaid : Type 0 where
  record_is : Record → RecordSaid
  refuses : ℕ → RecordSaid

-- what each case of the code's answer says
abbrev pub record_said : Result Record Refusal → RecordSaid
record_said (Ok r) = record_is r
record_said (Err x) = refuses (refusal_number x)

-- "The reader gives the step [..] All else is 7."
unfoldable pub record_in : model.Reading Record → RecordSaid
record_in none = refuses 7
record_in (some r) = record_is r.0

-- "and the rest of the bytes, as a part of the caller's slice": all of them where they are refused
unfoldable pub remaining : {A : Type 0} → model.Reading A → List ℕ → List ℕ
remaining none bytes = bytes
remaining (some r) bytes = r.1
