-- A promise about what an answer says fixes the answer: no two refusals share a number, and no two outcomes say the
-- same. The theorem is proofs/ToldApart.antt.
use Rattle.std.specs.Prelude.{◌≡◌}
use Rattle.model.specs.declared.Outcome.{Outcome}
use Rattle.model.specs.declared.Refusal.{Refusal}
use Rattle.model.specs.Outcome.{refusal_number, said_by}

pub record ToldApart : Type 0 where
  pub refusals : (a b : Refusal) → refusal_number a ≡ refusal_number b → a ≡ b
  pub outcomes : (a b : Outcome) → said_by a ≡ said_by b → a ≡ b
