-- What `console` answers, as data.
use Rattle.std.specs.Prelude.{ℕ, ◌≡◌, List, []}
use Rattle.model.specs.declared.Topology.{Topology}
use Rattle.model.specs.declared.Record.{Record}
use Rattle.model.specs.CallList.{Failure}
use Rattle.model.specs.Outcome.{refusal_number}
use Rattle.model.specs.Program.{Output}
use Rattle.model.specs.Reduction.{Smallest}
use Rattle.operator.specs.declared.refused.Refused.{Refused}
use Rattle.operator.specs.declared.refused.Refused.TheVariants.{Plan, Other}

-- an answer: a line alone; the part of a list that matters, of which the plan's bytes, the plan, the list's calls and
-- its first failure are fixed; what the target of a carried store then holds; or what `head` prints
pub data ConsoleAnswer : Type 0 where
  plan_refused : ℕ → ConsoleAnswer
  refused : ℕ → ConsoleAnswer
  reduced : List ℕ → Topology → List Record → Failure → ConsoleAnswer
  carried : List ℕ → ConsoleAnswer
  replayed : Output → ConsoleAnswer

-- the parts that may stand in an answer: a smallest one, and none in another answer
abbrev pub PartIn : ConsoleAnswer → List ℕ → Type 0
PartIn (plan_refused n) part = part ≡ []
PartIn (refused n) part = part ≡ []
PartIn (reduced plan T calls f) part = Smallest T calls f part
PartIn (carried target) part = part ≡ []
PartIn (replayed output) part = part ≡ []

-- what each case of the code's refusals says
abbrev pub refused_in : Refused → ConsoleAnswer
refused_in (Plan r) = plan_refused (refusal_number r)
refused_in (Other r) = refused (refusal_number r)
