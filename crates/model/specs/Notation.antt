-- Notation that the definitions share, of functions, lists and tests alone: a function changed at one index, a list
-- from a function, a test of every number below a bound, the first of several things that is there, and the bits of a
-- number.
use Rattle.std.specs.Prelude.{ℕ, zero, suc, ◌/◌, ◌%◌, ◌^◌, Bool, true, cond, ◌&&◌, List, [], ◌∷◌, ◌++◌, eqb}
use Rattle.std.proofs.Math.Option.{Option, none, or_else}

module _ {ℓ} {A : Type ℓ} where
  -- f with x at index i
  unfoldable pub upd : (ℕ → A) → ℕ → A → ℕ → A
  upd f i x j = cond (eqb i j) x (f j)

  -- f 0, f 1, .., f (n - 1)
  unfoldable pub tabulate : ℕ → (ℕ → A) → List A
  tabulate zero f = []
  tabulate (suc n) f = tabulate n f ++ (f n ∷ [])

  -- the list that f 0, f 1, .., f (n - 1) make one after the other
  unfoldable pub concat_below : ℕ → (ℕ → List A) → List A
  concat_below zero f = []
  concat_below (suc n) f = concat_below n f ++ f n

  -- what the smallest number below n has that has something
  unfoldable pub first_below : ℕ → (ℕ → Option A) → Option A
  first_below zero f = none
  first_below (suc n) f = or_else (first_below n f) (f n)

-- whether bit i of n stands, the lowest being bit 0
unfoldable pub bit_of : ℕ → ℕ → Bool
bit_of n i = eqb (n / 2 ^ i % 2) 1

-- whether f holds of every number below n
unfoldable pub all_below : ℕ → (ℕ → Bool) → Bool
all_below zero f = true
all_below (suc n) f = all_below n f && f n

-- whether every test of the list holds
unfoldable pub all_true : List Bool → Bool
all_true [] = true
all_true (t ∷ ts) = t && all_true ts
