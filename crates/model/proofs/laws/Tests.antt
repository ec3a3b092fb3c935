-- Laws of tests: conjunctions taken apart and put together, and a test's two cases.
use mathlib.Core.Path.{◌≡◌, refl, sym, subst, ◌∙◌}
use mathlib.Core.Bool.{Bool, true, false, cond, not, ◌&&◌, ◌||◌, beq}
use mathlib.Core.List.{List, [], ◌∷◌}
use lib.Dec.{T}
use Rattle.model.specs.Notation.{all_true}

pub true_is_not_false : {X : Type 0} {t : Bool} → t ≡ true → t ≡ false → X
true_is_not_false p q = absurd (subst T (sym p ∙ q) tt)

-- a conjunction that holds
pub and_left : (a b : Bool) → (a && b) ≡ true → a ≡ true
and_left true b e = refl
and_left false b e = e

pub and_right : (a b : Bool) → (a && b) ≡ true → b ≡ true
and_right true b e = e
and_right false b e = true_is_not_false e refl

pub and_both : (a b : Bool) → a ≡ true → b ≡ true → (a && b) ≡ true
and_both a b p q = rw (p, q)

pub and_false : (a : Bool) → (a && false) ≡ false
and_false true = refl
and_false false = refl

-- a disjunction that fails, and one with a known test
pub or_left : (a b : Bool) → (a || b) ≡ false → a ≡ false
or_left true b e = e
or_left false b e = refl

pub or_right : (a b : Bool) → (a || b) ≡ false → b ≡ false
or_right true b e = true_is_not_false refl e
or_right false b e = e

pub or_true : (a : Bool) → (a || true) ≡ true
or_true true = refl
or_true false = refl

pub or_false : (a : Bool) → (a || false) ≡ a
or_false true = refl
or_false false = refl

-- each test of a list holds
abbrev pub AllHold : List Bool → Type 0
AllHold [] = Unit {0}
AllHold (t ∷ ts) = (t ≡ true) × AllHold ts

pub all_hold : (ts : List Bool) → all_true ts ≡ true → AllHold ts
unfolding all_true
all_hold [] e = tt
all_hold (t ∷ ts) e = (and_left t (all_true ts) e, all_hold ts (and_right t (all_true ts) e))

pub hold_all : (ts : List Bool) → AllHold ts → all_true ts ≡ true
unfolding all_true
hold_all [] h = refl
hold_all (t ∷ ts) h = and_both t (all_true ts) h.0 (hold_all ts h.1)

-- a test's two cases, each with its equation
pub data Tested (t : Bool) : Type 0 where
  holds : t ≡ true → Tested t
  fails : t ≡ false → Tested t

pub test : (t : Bool) → Tested t
test true = holds refl
test false = fails refl

-- what holds of both branches
pub either {ℓ} : {A : Type ℓ} (P : A → Type 0) (t : Bool) (a b : A) → P a → P b → P (cond t a b)
either P true a b p q = p
either P false a b p q = q

-- two tags: the same, or one the other turned over
pub beq_same : (a b : Bool) → beq a b ≡ true → a ≡ b
beq_same true true e = refl
beq_same true false e = true_is_not_false e refl
beq_same false true e = true_is_not_false e refl
beq_same false false e = refl

pub beq_other : (a b : Bool) → beq a b ≡ false → a ≡ not b
beq_other true true e = true_is_not_false refl e
beq_other true false e = refl
beq_other false true e = refl
beq_other false false e = true_is_not_false refl e

pub not_itself : {X : Type 0} (t : Bool) → not t ≡ t → X
not_itself true e = true_is_not_false e refl
not_itself false e = true_is_not_false refl e
