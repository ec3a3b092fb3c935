-- Laws of the plan's reading: it passes, or is refused as the plan.
use Rattle.std.proofs.Common.{◌≡◌, ℕ, List, refl, sym}
use Rattle.std.specs.Prelude.{Result, Ok, Err, MatchResult}
use Rattle.model.specs.declared.Topology.{Topology}
use Rattle.model.specs.declared.Refusal.{Refusal}
use Rattle.model.specs.Outcome.{refusal_number, refusal_of}
use Rattle.plan.specs.PlanRead.{plan_said, plan_in}
use Rattle.plan.proofs.PlanReads.{plan_refusal_lem, plan_read}
use Rattle.operator.specs.declared.refused.Refused.{Refused}
use Rattle.operator.specs.declared.refused.Refused.TheVariants.{Plan}
use Rattle.operator.specs.Planned.{Planned}

pub planned : (bytes : List ℕ) (r : Result Topology Refusal) (m : Result Topology Refused) → plan_said r ≡ plan_in bytes
    → MatchResult r (λ T. m ≡ Ok T) (λ e. m ≡ Err (Plan e)) → Planned bytes m
unfolding refusal_of
planned bytes (Ok T) m says e =
    let p = plan_read (Ok T) bytes says refl in
    rw e (record { plan = p.plan; checks = p.checks; accepted = p.accepted })
planned bytes (Err n) m says e =
    rw e (record { number = refusal_number n; checks = sym (plan_refusal_lem (Err n) bytes says); told = refl })
