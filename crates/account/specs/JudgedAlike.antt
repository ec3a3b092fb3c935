-- The third theorem that ties the two accounts: in every state, reached by a run or not, a step is refused by both with
-- the same number, or says the same and makes as many stores. (A run never comes to 14, so that of 14 and of its place
-- in the order the other two say nothing.) As a statement; the theorem is proofs/JudgedAlike.antt.
use Rattle.std.specs.Prelude.{ℕ, ◌≡◌, length}
use Rattle.model.specs.declared.Step.{Step}
use Rattle.model.specs.Check.{first_refusal}
use Rattle.model.specs.State.{GlobalState}
use Rattle.model.specs.Step.{own_checks, result_of}
use Rattle.model.specs.Write.{Result}
use Rattle.model.specs.Run.{call}
use Rattle.account.specs.Judging.{judge}

-- the first account: a step's own checks, and its effect
abbrev pub first_account : GlobalState → Step → Result
first_account s x = result_of (first_refusal (own_checks s x)) s x

pub record JudgedAlike (s : GlobalState) (x : Step) (budget : ℕ) : Type 0 where
  pub outcome : (judge s (call x budget)).outcome ≡ (first_account s x).outcome
  pub made : (judge s (call x budget)).made ≡ length (first_account s x).writes
