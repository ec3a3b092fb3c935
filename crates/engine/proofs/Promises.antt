-- How the answer of the whole step meets its promise: refused with 15, 6 or 8, or as its own part has it.
use Rattle.std.proofs.Common.{◌≡◌, ℕ, ◌<◌, ◌≤◌, true, false, List, [], length, sym, refl, subst, arith, le-ltb, lt-ltb}
use mathlib.Core.Option.{some}
use native.Mathlib.Nat.{min-zero}
use lib.Seq.{take-nil}
use Rattle.model.specs.declared.State.{State}
use Rattle.model.specs.declared.Step.{Step}
use Rattle.model.specs.declared.Answer.{Answer}
use Rattle.model.specs.declared.Refusal.{Refusal}
use Rattle.model.specs.Check.{first_refusal}
use Rattle.model.specs.Layout.{store_cells}
use Rattle.model.specs.State.{GlobalState, view}
use Rattle.model.specs.Sound.{sound}
use Rattle.model.specs.Write.{Result, Answered, under_budget, write_all}
use Rattle.model.specs.Step.{step, own_checks, step_checks, result_of, answer, quietly}
use Rattle.model.specs.Outcome.{refusal_number}
use Rattle.model.specs.Outcome as says
use Rattle.engine.specs.Answers.{Meets, Answers, refused_by, own_result}

-- a result without writes, under any budget
pub unbudgeted : (budget : ℕ) (s : GlobalState) (store : List ℕ) (r : Result) → r.writes ≡ []
    → under_budget budget s store r ≡ record { outcome = r.outcome; made = 0; state = r.state; store = store }
unfolding under_budget write_all
unbudgeted budget s store r e = rw (e, le-ltb budget 0 (omega arith), min-zero budget, take-nil budget)

-- 15, 6 and 8 before everything else, and behind them a step's own part
module _ (s : State) (x : Step) (cells : ℕ) where
  pub unsound : sound (view s) ≡ false → step (view s) cells x ≡ quietly (says.refused 15) (view s)
  unfolding step step_checks first_refusal result_of
  unsound e = rw e

  module _ (h : sound (view s) ≡ true) where
    pub short : cells < store_cells → step (view s) cells x ≡ quietly (says.refused 6) (view s)
    unfolding step step_checks first_refusal result_of
    short l = rw (h, lt-ltb cells store_cells l)

    module _ (l : store_cells ≤ cells) where
      pub missing : first_refusal (own_checks (view s) x) ≡ some 8
          → step (view s) cells x ≡ quietly (says.refused 8) (view s)
      unfolding step step_checks first_refusal result_of
      missing n = rw (h, le-ltb cells store_cells l, n)

      own_step : step (view s) cells x ≡ own_result (view s) x
      unfolding step step_checks first_refusal own_result
      own_step = rw (h, le-ltb cells store_cells l)

module _ (s : State) (x : Step) (before : List ℕ) (budget : ℕ) where
  abbrev found : Result → Answer → List ℕ → Type 0
  found y r after = Meets s (under_budget budget (view s) before y) r after

  pub step_refused : (r : Refusal)
      → step (view s) (length before) x ≡ quietly (says.refused (refusal_number r)) (view s)
      → Answers s x before budget (refused_by r s) before
  unfolding answer quietly
  step_refused r e =
      subst (λ (y : Result). found y (refused_by r s) before) (sym e)
      (subst (λ (a : Answered). Meets s a (refused_by r s) before)
      (sym (unbudgeted budget (view s) before (quietly (says.refused (refusal_number r)) (view s)) refl))
      (record { outcome = refl; made = refl; state = refl; kept = λ _. refl; store = refl }))

  pub step_own : sound (view s) ≡ true → store_cells ≤ length before → (r : Answer) (after : List ℕ)
      → found (own_result (view s) x) r after → Answers s x before budget r after
  unfolding answer
  step_own h l r after m = subst (λ (y : Result). found y r after) (sym (own_step s x (length before) h l)) m
