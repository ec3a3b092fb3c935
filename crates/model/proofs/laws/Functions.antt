-- Laws of a function changed at one index, and of an array seen as a function: a write into the array is such a change.
use Prim.Native.Nat.{ℕ, ◌+◌, ◌<◌}
use mathlib.Core.Path.{◌≡◌, refl, sym, ap, ap₂, subst, fun_ext, ◌∙◌}
use mathlib.Core.Bool.{Bool, true, false, cond}
use mathlib.Core.List.{List, map}
use lib.ListN.{length, get_or, set, replicate, get_or-replicate, get_or-eq_default, length-replicate, length-map}
use lib.Seq.{get_or-set_same, get_or-set_other, set-get_or}
use lib.Dec.{eqb, ltb}
use borrow.Author.Tests.{eqb-true, eqb-false, eq-eqb, ne_eqb, lt-ltb, le-ltb, ltb-true, ltb-false}
use native.Mathlib.Omega.{arith}
use Rattle.model.specs.Notation.{upd}
use Rattle.model.proofs.laws.Tests.{Tested, holds, fails, test}

-- two indices: the same, or not
pub data Indices (i j : ℕ) : Type 0 where
  same : i ≡ j → Indices i j
  other : (i ≡ j → ⊥) → Indices i j

pub indices : (i j : ℕ) → Indices i j
indices i j = go (eqb i j) refl
  where
    go : (t : Bool) → eqb i j ≡ t → Indices i j
    go true e = same (eqb-true i j e)
    go false e = other (eqb-false i j e)

-- what holds at i and at every other index holds everywhere
pub by_index : (P : ℕ → Type 0) (i : ℕ) → P i → ((j : ℕ) → (i ≡ j → ⊥) → P j) → (j : ℕ) → P j
by_index P i h f j = go (indices i j)
  where
    go : Indices i j → P j
    go (same e) = subst P e h
    go (other n) = f j n

module _ {ℓ} {A : Type ℓ} where
  pub upd_same : (f : ℕ → A) (i : ℕ) (x : A) → upd f i x i ≡ x
  unfolding upd
  upd_same f i x = rw (eq-eqb i i refl)

  pub upd_at : (f : ℕ → A) (i j : ℕ) (x : A) → i ≡ j → upd f i x j ≡ x
  unfolding upd
  upd_at f i j x e = rw (eq-eqb i j e)

  pub upd_other : (f : ℕ → A) (i j : ℕ) (x : A) → (i ≡ j → ⊥) → upd f i x j ≡ f j
  unfolding upd
  upd_other f i j x n = rw (ne_eqb i j n)

  -- f with what it has at an index
  pub upd_unchanged : (f : ℕ → A) (i : ℕ) → upd f i (f i) ≡ f
  upd_unchanged f i = fun_ext (λ j. go j (indices i j))
    where
      go : (j : ℕ) → Indices i j → upd f i (f i) j ≡ f j
      go j (same e) = upd_at f i j (f i) e ∙ ap f e
      go j (other n) = upd_other f i j (f i) n

  -- what holds of f below n, and of x, holds below n of f with x at one index
  pub upd_all : (P : A → Type 0) (n : ℕ) (f : ℕ → A) (i : ℕ) (x : A) → P x → ((j : ℕ) → j < n → P (f j))
      → (j : ℕ) → j < n → P (upd f i x j)
  upd_all P n f i x px h j l = go (indices i j)
    where
      go : Indices i j → P (upd f i x j)
      go (same e) = rw (upd_at f i j x e) px
      go (other e) = rw (upd_other f i j x e) (h j l)

-- what f sees of a list, after a write
pub seen_set : {A B : Type 0} (f : A → B) (l : List A) (at : ℕ) (x d : A) → at < length l
    → (λ (i : ℕ). f (get_or (set l at x) i d)) ≡ upd (λ (i : ℕ). f (get_or l i d)) at (f x)
seen_set {A} {B} f l at x d h = fun_ext (λ i. go i (indices at i))
  where
    go : (i : ℕ) → Indices at i → f (get_or (set l at x) i d) ≡ upd (λ (j : ℕ). f (get_or l j d)) at (f x) i
    go i (same e) =
        ap (λ (j : ℕ). f (get_or (set l at x) j d)) (sym e) ∙ ap f (get_or-set_same l at x d h)
        ∙ sym (upd_at (λ (j : ℕ). f (get_or l j d)) at i (f x) e)
    go i (other n) =
        ap f (get_or-set_other l at i x d (λ e. n (sym e))) ∙ sym (upd_other (λ (j : ℕ). f (get_or l j d)) at i (f x) n)

-- what f sees of two lists, after a write into each at one place
pub seen_set_both : {A B C : Type 0} (f : A → B → C) (l : List A) (m : List B) (at : ℕ) (x d : A) (y e : B)
    → at < length l → at < length m
    → (λ (i : ℕ). f (get_or (set l at x) i d) (get_or (set m at y) i e))
    ≡ upd (λ (i : ℕ). f (get_or l i d) (get_or m i e)) at (f x y)
seen_set_both {A} {B} {C} f l m at x d y e h k = fun_ext (λ i. go i (indices at i))
  where
    before : ℕ → C
    before i = f (get_or l i d) (get_or m i e)

    go : (i : ℕ) → Indices at i → f (get_or (set l at x) i d) (get_or (set m at y) i e) ≡ upd before at (f x y) i
    go i (same q) =
        ap (λ (j : ℕ). f (get_or (set l at x) j d) (get_or (set m at y) j e)) (sym q)
        ∙ ap₂ f (get_or-set_same l at x d h) (get_or-set_same m at y e k) ∙ sym (upd_at before at i (f x y) q)
    go i (other n) =
        ap₂ f (get_or-set_other l at i x d (λ q. n (sym q))) (get_or-set_other m at i y e (λ q. n (sym q)))
        ∙ sym (upd_other before at i (f x y) n)

-- a list of one value, read with that value as the default
pub seen_replicate : {A : Type 0} (n : ℕ) (x : A) → ◌≡◌ {A = ℕ → A} (λ i. get_or (replicate n x) i x) (λ i. x)
seen_replicate n x = fun_ext (λ i. go i (test (ltb i n)))
  where
    go : (i : ℕ) → Tested (ltb i n) → get_or (replicate n x) i x ≡ x
    go i (holds e) = get_or-replicate n i x x (ltb-true i n e)
    go i (fails e) = get_or-eq_default (replicate n x) x (rw (length-replicate n x) (ltb-false i n e))

-- what is read within a list, whatever the default
pub get_d_within {ℓ} : {A : Type ℓ} (l : List A) (i : ℕ) (d e : A) → i < length l → get_or l i d ≡ get_or l i e
get_d_within {A = A} l i d e h =
    sym (get_or-set_same l i (get_or l i d) e h) ∙ ap (λ (k : List A). get_or k i e) (set-get_or l i d)

-- an array's length, from the length of what is seen of it
pub length_of : {A B : Type 0} (f : A → B) (l : List A) (n : ℕ) → length (map f l) ≡ n → length l ≡ n
length_of f l n e = sym (length-map l f) ∙ e

-- f below n, and z from n on
abbrev pub filled_below : {B : Type 0} → ℕ → (ℕ → B) → B → ℕ → B
filled_below n f z i = cond (ltb i n) (f i) z

-- an array of which nothing is filled, and one more place
pub filled_none : {B : Type 0} (f : ℕ → B) (z : B) → ◌≡◌ {A = ℕ → B} (λ i. z) (filled_below 0 f z)
filled_none f z = fun_ext (λ i. rw (le-ltb i 0 (omega arith)))

filled_next : {B : Type 0} (n : ℕ) (f : ℕ → B) (z : B) → upd (filled_below n f z) n (f n) ≡ filled_below (n + 1) f z
filled_next {B} n f z = fun_ext (λ i. go i (indices n i) (test (ltb i n)))
  where
    go : (i : ℕ) → Indices n i → Tested (ltb i n) → upd (filled_below n f z) n (f n) i ≡ filled_below (n + 1) f z i
    go i (same e) t = upd_at (filled_below n f z) n i (f n) e ∙ rw (← e, lt-ltb n (n + 1) (omega arith))
    go i (other e) (holds l) =
        upd_other (filled_below n f z) n i (f n) e ∙ rw (l, lt-ltb i (n + 1) (omega (arith, ltb-true i n l)))
    go i (other e) (fails l) =
        upd_other (filled_below n f z) n i (f n) e ∙ rw (l, le-ltb i (n + 1) (omega (arith, ltb-false i n l, e)))

pub filled_more : {A B : Type 0} (f : A → B) (l : List A) (d x : A) (n : ℕ) (g : ℕ → B) (z : B) → n < length l
    → (λ (i : ℕ). f (get_or l i d)) ≡ filled_below n g z → f x ≡ g n
    → (λ (i : ℕ). f (get_or (set l n x) i d)) ≡ filled_below (n + 1) g z
filled_more f l d x n g z h e q =
    seen_set f l n x d h ∙ ap₂ (λ (s : ℕ → _) (y : _). upd s n y) e q ∙ filled_next n g z

-- and of two arrays that are seen together
pub filled_both : {A B C : Type 0} (f : A → B → C) (l : List A) (m : List B) (d x : A) (e y : B) (n : ℕ) (g : ℕ → C)
    (z : C) → n < length l → n < length m → (λ (i : ℕ). f (get_or l i d) (get_or m i e)) ≡ filled_below n g z
    → f x y ≡ g n
    → (λ (i : ℕ). f (get_or (set l n x) i d) (get_or (set m n y) i e)) ≡ filled_below (n + 1) g z
filled_both f l m d x e y n g z h k is q =
    seen_set_both f l m n x d y e h k ∙ ap₂ (λ (s : ℕ → _) (v : _). upd s n v) is q ∙ filled_next n g z
