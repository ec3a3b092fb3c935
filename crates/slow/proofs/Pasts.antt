-- Laws of the past as the code holds it, and of what is told of it: the chains of the code go over the deeds in the
-- order of the calls, or the latest first, as the second account does.
use Rattle.std.proofs.Common.{◌≡◌, refl, sym, ap, ap₂, ◌∙◌, ℕ, zero, suc, ◌+◌, ◌-◌, ◌<◌, ◌≤◌}
use Rattle.std.proofs.Common.{Bool, true, false, cond, not, ◌||◌}
use Rattle.std.proofs.Common.{List, [], ◌∷◌, length, get_or, take, drop, arith, add-one}
use Rattle.std.proofs.Math.Bool.{or-false}
use mathlib.Core.List.{reverse, reverse_aux}
use Rattle.std.specs.List.{fold, count_by, list_any, prefix_len, take_while}
use Rattle.std.proofs.lemmas.List.{take_more, reverse-append, length-reverse, length-drop, take-append-drop}
use Rattle.std.proofs.lemmas.List.Sums.{sum_by-cons, take_while-cons, prefix_len-le-length}
use Rattle.std.proofs.lemmas.List.Folds.{length-prefix_len}
use lib.Seq.{take_all, take-append-le}
use Rattle.account.specs.declared.Deed.{Deed}
use Rattle.account.specs.Deeds.{number, any, since}
use Rattle.slow.specs.Kept.{latest, nothing}

pub latest_more : (n : ℕ) (f : ℕ → Deed) → latest (n + 1) f ≡ f n ∷ latest n f
unfolding latest
latest_more n f = rw (add-one n)

pub latest_cong : (n : ℕ) (f g : ℕ → Deed) → ((i : ℕ) → i < n → f i ≡ g i) → latest n f ≡ latest n g
unfolding latest
latest_cong zero f g h = refl
latest_cong (suc n) f g h = ap₂ ◌∷◌ (h n (omega arith)) (latest_cong n f g (λ i l. h i (omega arith)))

-- the first n of an array, the latest first
pub latest_is : (n : ℕ) (deeds : List Deed) → n ≤ length deeds
    → reverse (take n deeds) ≡ latest n (λ i. get_or deeds i nothing)
unfolding latest
latest_is zero deeds l = refl
latest_is (suc n) deeds l =
    let shorter = latest_is n deeds (omega arith) in
    rw (
      ← add-one n,
      take_more deeds n nothing (omega arith),
      reverse-append (take n deeds) (get_or deeds n nothing ∷ []),
    )
    (ap (λ (ds : List Deed). get_or deeds n nothing ∷ ds) shorter)

-- a fold over the deeds in order tells what is told of them, the latest first, deed by deed
pub fold_tells : {B : Type 0} (next : B → Deed → B) (told : List Deed → B)
    → ((d : Deed) (ds : List Deed) → told (d ∷ ds) ≡ next (told ds) d) → (ds before : List Deed)
    → fold next (told before) ds ≡ told (reverse_aux ds before)
fold_tells next told more [] before = refl
fold_tells next told more (d ∷ ds) before = rw (← more d before) (fold_tells next told more ds (d ∷ before))

any_is : (test : Deed → Bool) (ds : List Deed) → list_any test ds ≡ any test ds
unfolding any
any_is test [] = refl
any_is test (d ∷ ds) = rw (any_is test ds)

number_is : (test : Deed → Bool) (ds : List Deed) → count_by test ds ≡ number test ds
unfolding number
number_is test [] = refl
number_is test (d ∷ ds) =
    rw (sum_by-cons (λ (x : Deed). cond (test x) 1 0) d ds, number_is test ds) (go (test d))
  where
    go : (b : Bool) → cond b 1 0 + number test ds ≡ cond b (number test ds + 1) (number test ds)
    go true = omega arith
    go false = omega arith

since_is : (stop : Deed → Bool) (ds : List Deed) → take_while (λ d. not (stop d)) ds ≡ since stop ds
unfolding since
since_is stop [] = refl
since_is stop (d ∷ ds) =
    take_while-cons (λ (x : Deed). not (stop x)) d ds ∙ rw (since_is stop ds) (go (stop d))
  where
    go : (b : Bool) → cond (not b) (d ∷ since stop ds) [] ≡ cond b [] (d ∷ since stop ds)
    go true = refl
    go false = refl

take_reverse : (ds : List Deed) (n : ℕ) → n ≤ length ds → take n (reverse ds) ≡ reverse (drop (length ds - n) ds)
take_reverse ds n l =
    let k : ℕ = length ds - n in
    let last : List Deed = reverse (drop k ds) in
    let long : length last ≡ n = omega (arith, length-reverse (drop k ds), length-drop k ds) in
    ap (λ (xs : List Deed). take n (reverse xs)) (sym (take-append-drop k ds))
    ∙ ap (take n) (reverse-append (take k ds) (drop k ds))
    ∙ take-append-le n last (reverse (take k ds)) (omega (arith, long)) ∙ take_all n last (omega (arith, long))

-- the part of some deeds after the latest that passes a test, by how many there are
pub tail_is : (stop : Deed → Bool) (ds : List Deed) (n : ℕ) {past : List Deed} → reverse ds ≡ past
    → n ≡ length (take_while (λ d. not (stop d)) (reverse ds))
    → reverse (take (length ds - (length ds - n)) (drop (length ds - n) ds)) ≡ since stop past
tail_is stop ds n {past} e k =
    let so : n ≡ prefix_len (λ d. not (stop d)) (reverse ds) = k ∙ length-prefix_len (λ d. not (stop d)) (reverse ds) in
    let fits = prefix_len-le-length (λ d. not (stop d)) (reverse ds) in
    ap (λ (xs : List Deed). reverse xs)
    (take_all (length ds - (length ds - n)) (drop (length ds - n) ds) (omega (arith, length-drop (length ds - n) ds)))
    ∙ sym (take_reverse ds n (omega (arith, so, fits, length-reverse ds)))
    ∙ ap (λ (m : ℕ). take m (reverse ds)) so ∙ ap (take_while (λ d. not (stop d))) e ∙ since_is stop past

-- what is told of deeds in their order, and of them the latest first
any_reverse : (test : Deed → Bool) (ds before : List Deed)
    → list_any test (reverse_aux ds before) ≡ (list_any test ds || list_any test before)
any_reverse test [] before = refl
any_reverse test (d ∷ ds) before = any_reverse test ds (d ∷ before) ∙ go (test d) (list_any test ds)
  where
    go : (a b : Bool) → (b || (a || list_any test before)) ≡ ((a || b) || list_any test before)
    go true true = refl
    go true false = refl
    go false b = refl

pub any_told : (test : Deed → Bool) (ds : List Deed) {past : List Deed} → reverse ds ≡ past
    → list_any test ds ≡ any test past
any_told test ds {past} e =
    sym (or-false (list_any test ds)) ∙ sym (any_reverse test ds []) ∙ ap (list_any test) e ∙ any_is test past

count_reverse : (test : Deed → Bool) (ds before : List Deed)
    → count_by test (reverse_aux ds before) ≡ count_by test ds + count_by test before
count_reverse test [] before = omega arith
count_reverse test (d ∷ ds) before =
    omega (
      arith,
      count_reverse test ds (d ∷ before),
      sum_by-cons (λ (x : Deed). cond (test x) 1 0) d ds,
      sum_by-cons (λ (x : Deed). cond (test x) 1 0) d before,
    )

pub number_told : (test : Deed → Bool) (ds : List Deed) {past : List Deed} → reverse ds ≡ past
    → count_by test ds ≡ number test past
number_told test ds {past} e = omega (arith, count_reverse test ds [], ap (count_by test) e, number_is test past)
