-- Laws of the word rule: a remainder on the way changes nothing at the end; by any rule, one more receipt after others
-- is one more entered; and leaving undoes entering.
use Prim.Native.Nat.{ℕ, ◌+◌, ◌-◌, ◌*◌, ◌%◌, ◌/◌, ◌<◌}
use mathlib.Core.Path.{◌≡◌, refl, sym, ap, ◌∙◌}
use mathlib.Core.Bool.{Bool, cond}
use mathlib.Core.List.{List, [], ◌∷◌, ◌++◌}
use mathlib.Core.Option.{Option, none, some}
use native.Mathlib.Omega.{arith}
use native.Mathlib.Nat.{mul-add, mul_left_comm, div-add-mod, add-mul-mod_self_left, mod-lt, mod-eq_of_lt}
use native.Mathlib.Nat.{mod-add-mod}
use Rattle.model.specs.declared.Receipt.{Receipt}
use Rattle.model.specs.Word.{replay_by, enter, replay, minus, over_thirty_one, leave, undo_by}
use Rattle.model.specs.Form.{Form, restore_by, restore}

-- how many words there are
abbrev pub modulus : ℕ
modulus = 4294967296

-- k times a remainder, and k times the number
pub product_mod : (k x y : ℕ) → (k * (x % modulus) + y) % modulus ≡ (k * x + y) % modulus
product_mod k x y =
    let q : ℕ = x / modulus in
    let r : ℕ = x % modulus in
    let whole : k * (modulus * q + r) ≡ k * x = ap (λ (n : ℕ). k * n) (div-add-mod x modulus) in
    let e : k * r + y + modulus * (k * q) ≡ k * x + y = omega (
      arith,
      whole,
      mul-add k (modulus * q) r,
      mul_left_comm k modulus q,
    ) in
    sym (add-mul-mod_self_left (k * r + y) modulus (k * q)) ∙ ap (λ (n : ℕ). n % modulus) e

pub replay_snoc : (rule : ℕ → Receipt → ℕ) (w : ℕ) (xs : List Receipt) (r : Receipt)
    → replay_by rule w (xs ++ (r ∷ [])) ≡ rule (replay_by rule w xs) r
unfolding replay_by
replay_snoc rule w [] r = refl
replay_snoc rule w (x ∷ xs) r = replay_snoc rule (rule w x) xs r

-- a word is below 2^32
pub entered_bounded : (w : ℕ) (r : Receipt) → enter w r < modulus
entered_bounded w r = mod-lt _ (omega arith)

pub word_bounded : (w : ℕ) (rs : List Receipt) → w < modulus → replay w rs < modulus
unfolding replay_by
word_bounded w [] l = l
word_bounded w (r ∷ rs) l = word_bounded (enter w r) rs (entered_bounded w r)

-- a sum less what was added, and a product by 31 over 31
minus_added : (x y : ℕ) → minus ((x + y) % modulus) y ≡ x % modulus
minus_added x y =
    let r : ℕ = y % modulus in
    let q : ℕ = y / modulus in
    let l : r < modulus = mod-lt y (omega arith) in
    let e : x + y + (modulus - r) ≡ x + modulus * (q + 1) = omega (arith, div-add-mod y modulus) in
    mod-add-mod (x + y) modulus (modulus - r) ∙ ap (λ (n : ℕ). n % modulus) e
    ∙ add-mul-mod_self_left x modulus (q + 1)

-- what a wrapping difference is known by: the number that y added to wraps back to x
pub difference : (r x y : ℕ) → r < modulus → (r + y) % modulus ≡ x → r ≡ minus x y
difference r x y l e = sym (ap (λ (z : ℕ). minus z y) (sym e) ∙ minus_added r y ∙ mod-eq_of_lt l)

over_product : (x : ℕ) → over_thirty_one (31 * x % modulus) ≡ x % modulus
over_product x =
    let z : 3186588639 * (31 * x % modulus) ≡ 3186588639 * (31 * x % modulus) + 0 = omega arith in
    let e : 3186588639 * (31 * x) + 0 ≡ x + modulus * (23 * x) = omega arith in
    ap (λ (n : ℕ). n % modulus) z ∙ product_mod 3186588639 (31 * x) 0 ∙ ap (λ (n : ℕ). n % modulus) e
    ∙ add-mul-mod_self_left x modulus (23 * x)

pub leave_enter : (w : ℕ) (r : Receipt) → w < modulus → leave (enter w r) r ≡ w
unfolding leave
leave_enter w r l =
    rw (
      minus_added (31 * (31 * w + r.channel)) r.body,
      over_product (31 * w + r.channel),
      minus_added (31 * w) r.channel,
      over_product w,
    )
    (mod-eq_of_lt l)

-- the last of several is undone first
pub undo_snoc : (rule : ℕ → Receipt → ℕ) (w : ℕ) (rs : List Receipt) (r : Receipt)
    → undo_by rule w (rs ++ (r ∷ [])) ≡ undo_by rule (rule w r) rs
unfolding undo_by
undo_snoc rule w [] r = refl
undo_snoc rule w (x ∷ rs) r = ap (λ (v : ℕ). rule v x) (undo_snoc rule w rs r)

-- all of what was entered, undone
pub undo_replay : (w : ℕ) (rs : List Receipt) → w < modulus → undo_by leave (replay w rs) rs ≡ w
unfolding undo_by replay_by
undo_replay w [] l = refl
undo_replay w (r ∷ rs) l =
    ap (λ (v : ℕ). leave v r) (undo_replay (enter w r) rs (entered_bounded w r)) ∙ leave_enter w r l

-- an empty log leaves the physical checkpoint as it is, whatever the form and the process
pub restore_nothing : (F : Form) (late : Bool) (word : ℕ) → restore F late word [] ≡ word
unfolding restore restore_by undo_by replay_by
restore_nothing F late word = go (cond late F.leave none)
  where
    go : (rule : Option (ℕ → Receipt → ℕ)) → restore_by rule F.enter word [] ≡ word
    go none = refl
    go (some leave) = refl
