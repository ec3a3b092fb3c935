-- Laws of the texts that are written: a number's digits before its last, how many it has, and numbers one after the
-- other.
use Prim.Native.Nat.{ℕ, zero, suc, ◌+◌, ◌/◌, ◌%◌, ◌^◌, ◌<◌, ◌≤◌}
use mathlib.Core.Path.{◌≡◌, refl, ◌∙◌}
use mathlib.Core.List.{List, [], ◌∷◌, ◌++◌, append_assoc, append-nil}
use native.Mathlib.Omega.{arith}
use lib.ListN.{length, get_or, take, length-append}
use lib.Seq.{take-suc}
use native.Mathlib.Numerals.{add-one}
use lib.Dec.{ltb}
use borrow.Author.Tests.{lt-ltb, le-ltb, ltb-false}
use Rattle.model.proofs.laws.Tests.{Tested, test, holds, fails}
use Rattle.report.specs.Text.{chars, digit, digits, decimal, values}

-- more fuel than the number has digits changes nothing
digits_fuel : (f g n : ℕ) → n < f → n < g → digits f n ≡ digits g n
unfolding digits
digits_fuel zero g n hf hg = absurd (omega arith)
digits_fuel (suc f) zero n hf hg = absurd (omega arith)
digits_fuel (suc f) (suc g) n hf hg = go (test (ltb n 10)) (λ l. digits_fuel f g (n / 10) (omega arith) (omega arith))
  where
    go : Tested (ltb n 10) → (10 ≤ n → digits f (n / 10) ≡ digits g (n / 10)) → digits (suc f) n ≡ digits (suc g) n
    go (holds e) fewer = rw e
    go (fails e) fewer = rw (e, fewer (ltb-false n 10 e))

-- the last digit, alone or after the others
pub decimal_one : (n : ℕ) → n < 10 → decimal n ≡ digit (n % 10)
unfolding decimal digits
decimal_one n l = rw (lt-ltb n 10 l)

pub decimal_more : (n : ℕ) → 10 ≤ n → decimal n ≡ decimal (n / 10) ++ digit (n % 10)
unfolding decimal digits
decimal_more n l = rw (le-ltb n 10 l, digits_fuel n (suc (n / 10)) (n / 10) (omega arith) (omega arith))

-- at most k + 1 digits below 10^(k + 1)
digits_length : (f k n : ℕ) → n < 10 ^ suc k → length (digits f n) ≤ suc k
unfolding digits
digits_length zero k n l = omega arith
digits_length (suc f) k n l = go k l (test (ltb n 10)) (λ j h. digits_length f j (n / 10) h)
  where
    go : (k : ℕ) → n < 10 ^ suc k → Tested (ltb n 10)
        → ((j : ℕ) → n / 10 < 10 ^ suc j → length (digits f (n / 10)) ≤ suc j) → length (digits (suc f) n) ≤ suc k
    go k l (holds e) fewer = rw e (omega arith)
    go zero l (fails e) fewer = absurd (omega (arith, ltb-false n 10 e))
    go (suc k) l (fails e) fewer =
        rw (e, length-append (digits f (n / 10)) (digit (n % 10))) (omega (arith, fewer k (omega arith)))

pub decimal_length : (k n : ℕ) → n < 10 ^ suc k → length (decimal n) ≤ suc k
unfolding decimal
decimal_length k n l = digits_length (suc n) k n l

-- numbers, each after a space: one, and some after others
pub values_one : (n : ℕ) → values (n ∷ []) ≡ chars " " ++ decimal n
unfolding values
values_one n = append-nil (chars " " ++ decimal n)

pub values_append : (xs ys : List ℕ) → values (xs ++ ys) ≡ values xs ++ values ys
unfolding values
values_append [] ys = refl
values_append (x ∷ xs) ys = rw (values_append xs ys, append_assoc (chars " " ++ decimal x) (values xs) (values ys))

pub values_more : (ns : List ℕ) (i : ℕ) → i < length ns
    → values (take (i + 1) ns) ≡ values (take i ns) ++ values (get_or ns i 0 ∷ [])
values_more ns i inside =
    rw (add-one i, take-suc ns i 0 inside) (values_append (take i ns) (get_or ns i 0 ∷ []))

pub values_two : (a b : ℕ) (vs : List ℕ) → values (a ∷ b ∷ vs) ≡ values (a ∷ []) ++ values (b ∷ []) ++ values vs
values_two a b vs = values_append (a ∷ b ∷ []) vs ∙ rw (values_append (a ∷ []) (b ∷ []))
