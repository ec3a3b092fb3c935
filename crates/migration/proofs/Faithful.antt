-- The theorems of specs/Faithful.
use Prim.Native.Nat.{ℕ}
use mathlib.Core.Path.{◌≡◌, refl, sym, ◌∙◌}
use mathlib.Core.List.{List}
use mathlib.Core.Option.{Option, none, some, or_else}
use lib.ListN.{length}
use borrow.Author.Tests.{le-ltb}
use Rattle.model.specs.Check.{first_refusal}
use Rattle.model.specs.State.{GlobalState}
use Rattle.model.specs.Recover.{startup_or, recover_refusal, recover}
use Rattle.migration.specs.Carry.{carry_refusal, carried_or, carry}
use Rattle.migration.specs.Faithful.{Alike, Faithful, FaithfulOfCode, ThereAndBack}
use Rattle.migration.proofs.Admitting.{carriable, carried_refusal}
use Rattle.migration.proofs.Recovers.{alike}

-- what is refused is what the checks refuse
startup_refusal : (o : Option ℕ) (s : GlobalState) (after before : List ℕ) → (startup_or o s after before).refusal ≡ o
unfolding startup_or
startup_refusal none s after before = refl
startup_refusal (some n) s after before = refl

pub faithful : Faithful
unfolding carry carried_or
faithful F G T source target e =
    let passed : carry_refusal F G T source (length target) ≡ none = sym (carried_refusal _ _ _) ∙ e in
    rw passed (alike F G T source target (carriable passed))

pub faithful_of_code : FaithfulOfCode
faithful_of_code F G T source before after r kept e =
    rw kept.target (faithful F G T source before (sym kept.verdict ∙ e))

pub there_and_back : ThereAndBack
unfolding carry carry_refusal recover or_else first_refusal
there_and_back F G T source target back e long =
    let there : List ℕ = (carry F G T source target).target in
    let once : Alike F G T source there = faithful F G T source target e in
    let readable : recover_refusal G T there ≡ none = sym (startup_refusal _ _ _ _) ∙ once.accepted in
    let passed : (carry G F T there back).refusal ≡ none = carried_refusal _ _ _ ∙ rw (readable, le-ltb _ _ long) in
    let twice : Alike G F T there (carry G F T there back).target = faithful G F T there back passed in
    record {
      accepted = passed;
      alike = record { accepted = twice.accepted; state = twice.state ∙ once.state };
    }
