-- Laws of lists from a function (`tabulate`, `concat_below`), of tests below a bound (`all_below`) and of the first
-- below a bound (`first_below`): from the values, at one index, and with one more, as a loop that counts up adds them.
use Prim.Native.Nat.{ℕ, zero, suc, ◌+◌, ◌<◌, ◌≤◌}
use mathlib.Core.Path.{◌≡◌, refl, ap, ap₂, ◌∙◌}
use mathlib.Core.Bool.{Bool, true, false, cond, ◌&&◌}
use mathlib.Core.List.{List, [], ◌∷◌, ◌++◌, map, map-append}
use mathlib.Core.Option.{Option, none, some, or_else}
use mathlib.Mathlib.Data.Option.Basic.{or_else-eq-none}
use lib.ListN.{length, length-append, get_or, get_or-append}
use lib.Seq.{get_or_at}
use lib.Dec.{leb}
use borrow.Author.Tests.{leb-true}
use native.Mathlib.Omega.{arith}
use native.Mathlib.Numerals.{add-one}
use Rattle.model.specs.Notation.{tabulate, concat_below, all_below, first_below}
use Rattle.model.proofs.laws.Tests.{true_is_not_false, and_left, and_right, and_both, Tested, holds, fails, test}
use Rattle.model.proofs.laws.Functions.{Indices, same, other, indices}

module _ {ℓ} {A : Type ℓ} where
  pub tabulate_length : (n : ℕ) (f : ℕ → A) → length (tabulate n f) ≡ n
  unfolding tabulate
  tabulate_length zero f = refl
  tabulate_length (suc n) f = length-append (tabulate n f) (f n ∷ []) ∙ rw (tabulate_length n f) (add-one n)

  -- only the values below n count
  pub tabulate_cong : (n : ℕ) (f g : ℕ → A) → ((i : ℕ) → i < n → f i ≡ g i) → tabulate n f ≡ tabulate n g
  unfolding tabulate
  tabulate_cong zero f g h = refl
  tabulate_cong (suc n) f g h = rw (tabulate_cong n f g (λ i l. h i (omega arith)), h n (omega arith))

  -- the first one first
  pub tabulate_cons : (n : ℕ) (f : ℕ → A) → tabulate (suc n) f ≡ f 0 ∷ tabulate n (λ i. f (suc i))
  unfolding tabulate
  tabulate_cons zero f = refl
  tabulate_cons (suc n) f = ap (λ (l : List A). l ++ (f (suc n) ∷ [])) (tabulate_cons n f)

  -- one more
  pub tabulate_more : (n : ℕ) (f : ℕ → A) → tabulate (n + 1) f ≡ tabulate n f ++ (f n ∷ [])
  unfolding tabulate
  tabulate_more n f = rw add-one

  pub map_tabulate : {B : Type 0} (g : A → B) (n : ℕ) (f : ℕ → A) → map g (tabulate n f) ≡ tabulate n (λ i. g (f i))
  unfolding tabulate
  map_tabulate g zero f = refl
  map_tabulate {B = B} g (suc n) f =
      map-append g (tabulate n f) (f n ∷ []) ∙ ap (λ (l : List B). l ++ (g (f n) ∷ [])) (map_tabulate g n f)

  pub concat_cong : (n : ℕ) (f g : ℕ → List A) → ((i : ℕ) → i < n → f i ≡ g i) → concat_below n f ≡ concat_below n g
  unfolding concat_below
  concat_cong zero f g h = refl
  concat_cong (suc n) f g h = rw (concat_cong n f g (λ i l. h i (omega arith)), h n (omega arith))

  pub concat_more : (n : ℕ) (f : ℕ → List A) → concat_below (n + 1) f ≡ concat_below n f ++ f n
  unfolding concat_below
  concat_more n f = rw add-one

-- what stands at an index
pub tabulate_at : {A : Type 0} (n : ℕ) (f : ℕ → A) (i : ℕ) (d : A) → i < n → get_or (tabulate n f) i d ≡ f i
unfolding tabulate
tabulate_at zero f i d l = absurd (omega arith)
tabulate_at (suc n) f i d l = go (indices i n) (λ k. tabulate_at n f i d k)
  where
    go : Indices i n → (i < n → get_or (tabulate n f) i d ≡ f i) → get_or (tabulate n f ++ (f n ∷ [])) i d ≡ f i
    go (same e) lower = rw e (get_or_at (tabulate n f) (f n) [] d n (tabulate_length n f))
    go (other e) lower =
        let k : i < n = omega (arith, e) in
        get_or-append (tabulate n f) (f n ∷ []) d i (rw (tabulate_length n f) k) ∙ lower k

-- a test of every number below a bound: at one number, and from each
pub all_at : (n : ℕ) (f : ℕ → Bool) → all_below n f ≡ true → (i : ℕ) → i < n → f i ≡ true
unfolding all_below
all_at zero f e i l = absurd (omega arith)
all_at (suc n) f e i l = go (indices i n) (λ k. all_at n f (and_left (all_below n f) (f n) e) i k)
  where
    go : Indices i n → (i < n → f i ≡ true) → f i ≡ true
    go (same q) lower = rw q (and_right (all_below n f) (f n) e)
    go (other q) lower = lower (omega (arith, q))

pub all_of : (n : ℕ) (f : ℕ → Bool) → ((i : ℕ) → i < n → f i ≡ true) → all_below n f ≡ true
unfolding all_below
all_of zero f h = refl
all_of (suc n) f h = and_both (all_below n f) (f n) (all_of n f (λ i l. h i (omega arith))) (h n (omega arith))

-- tests that agree below the bound
pub all_cong : (n : ℕ) (f g : ℕ → Bool) → ((i : ℕ) → i < n → f i ≡ g i) → all_below n f ≡ all_below n g
unfolding all_below
all_cong zero f g h = refl
all_cong (suc n) f g h = ap₂ ◌&&◌ (all_cong n f g (λ i l. h i (omega arith))) (h n (omega arith))

-- one more number passes; one that fails decides
pub all_next : (n : ℕ) (f : ℕ → Bool) → all_below n f ≡ true → f n ≡ true → all_below (n + 1) f ≡ true
unfolding all_below
all_next n f e p = rw (add-one n) (and_both (all_below n f) (f n) e p)

pub all_but : (n c : ℕ) (f : ℕ → Bool) → c < n → f c ≡ false → all_below n f ≡ false
all_but n c f l e = go (test (all_below n f))
  where
    go : Tested (all_below n f) → all_below n f ≡ false
    go (holds p) = true_is_not_false (all_at n f p c l) e
    go (fails p) = p

-- every number below n has a value within its bound
pub at_most : (n : ℕ) (f bound : ℕ → ℕ) → all_below n (λ i. leb (f i) (bound i)) ≡ true → (i : ℕ) → i < n
    → f i ≤ bound i
at_most n f bound e i l = leb-true (f i) (bound i) (all_at n (λ j. leb (f j) (bound j)) e i l)

-- where two have no first, neither has one
pub or_else_none : {A : Type 0} (a b : Option A) → or_else a b ≡ none → (a ≡ none) × (b ≡ none)
or_else_none a b e = (or_else-eq-none a b).0 e

pub or_nothing : {A : Type 0} (a : Option A) → or_else a none ≡ a
unfolding or_else
or_nothing none = refl
or_nothing (some x) = refl

-- the first below a bound: none of them has one; with none below n, it is n's own below n + 1; and it stays the first
-- below every higher bound
module _ {A : Type 0} where
  pub none_below : (n : ℕ) (f : ℕ → Option A) → first_below n f ≡ none → (i : ℕ) → i < n → f i ≡ none
  unfolding first_below
  none_below zero f e i l = absurd (omega arith)
  none_below (suc n) f e i l = go (indices i n) (λ k. none_below n f (or_else_none (first_below n f) (f n) e).0 i k)
    where
      go : Indices i n → (i < n → f i ≡ none) → f i ≡ none
      go (same q) lower = rw q (or_else_none (first_below n f) (f n) e).1
      go (other q) lower = lower (omega (arith, q))

  pub below_none : (n : ℕ) (f : ℕ → Option A) → ((i : ℕ) → i < n → f i ≡ none) → first_below n f ≡ none
  unfolding first_below or_else
  below_none zero f h = refl
  below_none (suc n) f h = rw (below_none n f (λ i l. h i (omega arith)), h n (omega arith))

  pub first_next : (n : ℕ) (f : ℕ → Option A) → first_below n f ≡ none → first_below (n + 1) f ≡ f n
  unfolding first_below or_else
  first_next n f e = rw (add-one n, e)

  pub first_at : (n c : ℕ) (f : ℕ → Option A) (r : A) → c < n → first_below c f ≡ none → f c ≡ some r
      → first_below n f ≡ some r
  unfolding first_below or_else
  first_at zero c f r l before at = absurd (omega arith)
  first_at (suc n) c f r l before at = go (indices c n) (λ k. first_at n c f r k before at)
    where
      go : Indices c n → (c < n → first_below n f ≡ some r) → or_else (first_below n f) (f n) ≡ some r
      go (same e) below = rw (← e, before) at
      go (other e) below = rw (below (omega (arith, e)))

-- the first number below a bound of which a test holds, if there is one
pub data Search (f : ℕ → Bool) (n : ℕ) : Option ℕ → Type 0 where
  found : {p : ℕ} → p < n → f p ≡ true → ((q : ℕ) → q < p → f q ≡ false) → Search f n (some p)
  absent : ((q : ℕ) → q < n → f q ≡ false) → Search f n none

pub search_below : (f : ℕ → Bool) (n : ℕ) → Search f n (first_below n (λ p. cond (f p) (some p) none))
unfolding first_below or_else
search_below f zero = absent (λ q l. absurd (omega arith))
search_below f (suc n) = go (search_below f n)
  where
    last : ((q : ℕ) → q < n → f q ≡ false) → Tested (f n) → Search f (suc n) (cond (f n) (some n) none)
    last h (holds e) = rw e (found {p = n} (omega arith) e h)
    last h (fails e) = rw e (absent (λ q l. up q l (indices q n)))
      where
        up : (q : ℕ) → q < suc n → Indices q n → f q ≡ false
        up q l (same i) = rw i e
        up q l (other i) = h q (omega (arith, i))

    go : {o : Option ℕ} → Search f n o → Search f (suc n) (or_else o (cond (f n) (some n) none))
    go (found {p} l e h) = found {p = p} (omega arith) e h
    go (absent h) = last h (test (f n))
