-- What the reader's answer says of the bytes: the plan's refusal, or that it passes all of its checks.
use Rattle.std.proofs.Common.{◌≡◌, ℕ, List, Result, Ok, Err, refl, sym, ap, ◌∙◌}
use Rattle.std.proofs.Math.Option.{Option, none, some, or_else}
use Rattle.model.specs.declared.Topology.{Topology}
use Rattle.model.specs.declared.Refusal.{Refusal}
use Rattle.model.specs.Topology.{topology_refusal}
use Rattle.model.specs.Outcome.{refusal_of}
use Rattle.model.specs.Program.{plan_of, shape_refusal, plan_refusal}
use Rattle.model.proofs.laws.Lists.{or_else_none}
use Rattle.plan.specs.PlanRead.{PlanSaid, plan_said, plan_or, plan_in}

-- a plan that is read, and its checks
pub record Passes (bytes : List ℕ) (T : Topology) : Type 0 where
  pub plan : T ≡ plan_of bytes
  pub checks : plan_refusal bytes ≡ none
  pub accepted : topology_refusal T ≡ none

-- the refusal that is said, for an answer of either kind
refusal_said : (r : Result Topology Refusal) → refusal_of r ≡ (plan_said r).refusal
unfolding refusal_of
refusal_said (Ok T) = refl
refusal_said (Err e) = refl

module _ (r : Result Topology Refusal) (bytes : List ℕ) (says : plan_said r ≡ plan_in bytes) where
  pub plan_refusal_lem : refusal_of r ≡ plan_refusal bytes
  unfolding plan_in plan_or
  plan_refusal_lem = refusal_said r ∙ (ap (λ (x : PlanSaid). x.refusal) says ∙ go (plan_refusal bytes))
    where
      go : (x : Option ℕ) → (plan_or x (plan_of bytes)).refusal ≡ x
      go none = refl
      go (some n) = refl

  pub plan_read : {T : Topology} → r ≡ Ok T → Passes bytes T
  unfolding refusal_of plan_in plan_or plan_refusal
  plan_read {T} e =
      let checks : plan_refusal bytes ≡ none = sym plan_refusal_lem ∙ ap refusal_of e in
      let plan : T ≡ plan_of bytes = ap (λ (x : PlanSaid). x.plan) (sym (ap plan_said e) ∙ says) ∙ rw checks in
      record {
        plan = plan;
        checks = checks;
        accepted = rw plan (or_else_none (shape_refusal bytes) (topology_refusal (plan_of bytes)) checks).1;
      }

-- the reader's two checks: what is said where the second refuses, and where both pass
module _ {A : Type 0} (bytes : List ℕ) (shape : Result A Refusal)
    (by_shape : refusal_of shape ≡ shape_refusal bytes) where
  pub shaped : {x : A} → shape ≡ Ok x → shape_refusal bytes ≡ none
  unfolding refusal_of
  shaped is = sym by_shape ∙ ap refusal_of is

  module _ {x : A} (is : shape ≡ Ok x) (T : Topology) (read : T ≡ plan_of bytes) (check : Result A Refusal)
      (by_check : refusal_of check ≡ topology_refusal T) where
    pub refused_topology : (e : Refusal) → check ≡ Err e → plan_said (Err e) ≡ plan_in bytes
    unfolding refusal_of plan_refusal or_else plan_in plan_or
    refused_topology e said = rw (shaped is, ← read, ← by_check, said)

    pub passed_both : {y : A} → check ≡ Ok y → plan_said (Ok T) ≡ plan_in bytes
    unfolding refusal_of plan_refusal or_else plan_in plan_or
    passed_both said = rw (shaped is, ← read, ← by_check, said)

pub ruleset checks = (shaped, refused_topology, passed_both)
