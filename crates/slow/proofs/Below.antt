-- A test of each number below a bound, as a chain over a range makes it.
use Rattle.std.proofs.Common.{◌≡◌, ◌∙◌, refl, ap, ap₂, ℕ, zero, suc, ◌+◌, arith, Bool, true, false, ◌&&◌}
use Rattle.std.specs.List.{list_all, range_with_len}
use Rattle.model.specs.Notation.{all_below}

and_assoc : (a b c : Bool) → (a && (b && c)) ≡ ((a && b) && c)
and_assoc true b c = refl
and_assoc false b c = refl

and_last : (a : Bool) → (a && true) ≡ a
and_last true = refl
and_last false = refl

one_more : (test : ℕ → Bool) (n a : ℕ)
    → list_all test (range_with_len a (suc n)) ≡ (list_all test (range_with_len a n) && test (a + n))
one_more test zero a = let e : a ≡ a + 0 = omega arith in and_last (test a) ∙ ap test e
one_more test (suc n) a =
    let e : a + 1 + n ≡ a + suc n = omega arith in
    ap (λ (t : Bool). test a && t)
    (one_more test n (a + 1) ∙ ap (λ (k : ℕ). list_all test (range_with_len (a + 1) n) && test k) e)
    ∙ and_assoc (test a) (list_all test (range_with_len (a + 1) n)) (test (a + suc n))

pub all_is : (test : ℕ → Bool) (n : ℕ) → list_all test (range_with_len 0 n) ≡ all_below n test
unfolding all_below
all_is test zero = refl
all_is test (suc n) =
    let e : 0 + n ≡ n = omega arith in
    one_more test n 0 ∙ ap₂ ◌&&◌ (all_is test n) (ap test e)
