-- The public promise of `reduce`.
use Rattle.std.specs.Prelude.{◌≡◌, List, Result, Ok, Err, IfOk}
use Rattle.model.specs.declared.Topology.{Topology}
use Rattle.model.specs.declared.Record.{Record}
use Rattle.model.specs.declared.Refusal.{Refusal}
use Rattle.model.specs.Outcome.{refusal_number}
use Rattle.model.specs.CallList.{rooms}
use Rattle.model.specs.Reduction.{Sought, refuses, finds, calls_at, sought, PartFor}
use Rattle.reduction.specs.declared.Reduced.{Reduced}
use Rattle.reduction.specs.Parts.{kept, padded, Held}

-- what each case of the code's answer says
abbrev pub sought_in : Result Reduced Refusal → Sought
sought_in (Ok r) = finds (record { place = r.place; number = refusal_number r.refusal })
sought_in (Err r) = refuses (refusal_number r)

-- what comes with a failure: a part that the definition allows, as the code holds it, and how much room each of its
-- calls says is left, where the part is run
pub record Parted (T : Topology) (calls : List Record) (r : Reduced) : Type 0 where
  pub part : PartFor T calls (sought T calls) (kept r.part)
  pub held : Held r.part
  pub rooms : r.rooms ≡ padded (rooms T (calls_at calls (kept r.part)))

-- The refusal, or the list's first failure with its number, is the definition's. The part is one that the definition
-- allows and no more is said of it: "Which of several such parts comes back is left open." But it comes back in one
-- way: its places, how many they are, and 0 in the places after them. With a refusal comes no part at all.
pub record Reduces (T : Topology) (calls : List Record) (r : Result Reduced Refusal) : Type 0 where
  pub answer : sought_in r ≡ sought T calls
  pub parted : IfOk r (Parted T calls)
