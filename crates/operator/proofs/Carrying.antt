-- Laws of questions 2 and 3: each way that the carrying of a store ends.
use Rattle.std.proofs.Common.{◌≡◌, ℕ, true, false, List, drop}
use Rattle.std.specs.Prelude.{Result}
use mathlib.Core.Option.{none, some}
use Rattle.model.specs.declared.Topology.{Topology}
use Rattle.model.specs.declared.Refusal.{Refusal}
use Rattle.model.specs.Form.{Form}
use Rattle.model.specs.Outcome.{refusal_of}
use Rattle.model.specs.Program.{plan_of, plan_length, plan_refusal}
use Rattle.migration.specs.Carry.{carry}
use Rattle.migration.specs.Carries.{Carries}
use Rattle.operator.specs.ConsoleAnswer.{plan_refused, refused}
use Rattle.operator.specs.Carrying.{cells_in, are_cells, carried_answer, cells_answer, source_answer, carrying}

module _ (F G : Form) (bytes target : List ℕ) where
  pub ends_plan : {n : ℕ} → plan_refusal bytes ≡ some n → plan_refused n ≡ carrying F G bytes target
  unfolding carrying source_answer
  ends_plan e = rw e

  -- past the plan
  module _ (passes : plan_refusal bytes ≡ none) {rest : List ℕ}
      (after-plan : rest ≡ drop (plan_length bytes) bytes) where
    pub ends_broken : are_cells rest ≡ false → refused 7 ≡ carrying F G bytes target
    unfolding carrying source_answer cells_answer
    ends_broken e = rw (passes, ← after-plan, e)

    pub ends_carried : {T : Topology} {source after : List ℕ} {r : Result (Unit {0}) Refusal} → are_cells rest ≡ true
        → T ≡ plan_of bytes → source ≡ cells_in rest → Carries (carry F G T source target) r after
        → carried_answer (refusal_of r) after ≡ carrying F G bytes target
    unfolding carrying source_answer cells_answer
    ends_carried e p s c = rw (passes, ← after-plan, e, ← p, ← s, ← c.verdict, ← c.target)
