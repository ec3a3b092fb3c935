-- What a list of writes does to one cell, whatever the cells mean: a cell that no write goes to is kept, and a cell
-- that a list of zeros goes to is 0.
use Prim.Native.Nat.{ℕ, zero, suc, ◌<◌}
use mathlib.Core.Path.{◌≡◌, refl, subst, ◌∙◌}
use mathlib.Core.List.Memᴰ
use mathlib.Core.List.{List, [], ◌∷◌, ◌++◌, Memᴰ}
use lib.ListN.{length, take, length-set}
use lib.Seq.{lt-length-set, get_or-set_same, get_or-set_other}
use native.Mathlib.Omega.{arith}
use Rattle.model.specs.Notation.{tabulate, concat_below}
use Rattle.model.specs.Layout.{cell}
use Rattle.model.specs.Write.{Write, write, write_all}
use Rattle.model.proofs.laws.Functions.{Indices, same, other, indices}

-- P holds of every write of the list
abbrev pub Each : (Write → Type 0) → List Write → Type 0
Each P [] = Unit
Each P (w ∷ ws) = P w × Each P ws

pub each_take : (P : Write → Type 0) (b : ℕ) (ws : List Write) → Each P ws → Each P (take b ws)
each_take P zero ws h = tt
each_take P (suc b) [] h = tt
each_take P (suc b) (w ∷ ws) h = (h.0, each_take P b ws h.1)

pub each_append : (P : Write → Type 0) (ws vs : List Write) → Each P ws → Each P vs → Each P (ws ++ vs)
each_append P [] vs h k = k
each_append P (w ∷ ws) vs h k = (h.0, each_append P ws vs h.1 k)

pub each_map : (P Q : Write → Type 0) → ((w : Write) → P w → Q w) → (ws : List Write) → Each P ws → Each Q ws
each_map P Q f [] h = tt
each_map P Q f (w ∷ ws) h = (f w h.0, each_map P Q f ws h.1)

pub each_concat : (P : Write → Type 0) (n : ℕ) (f : ℕ → List Write) → ((i : ℕ) → i < n → Each P (f i))
    → Each P (concat_below n f)
unfolding concat_below
each_concat P zero f h = tt
each_concat P (suc n) f h =
    each_append P (concat_below n f) (f n) (each_concat P n f (λ i l. h i (omega arith))) (h n (omega arith))

-- a write of the i-th list is one of the lists put together
pub in_concat : (n : ℕ) (f : ℕ → List Write) (i : ℕ) → i < n → (w : Write) → Memᴰ w (f i)
    → Memᴰ w (concat_below n f)
unfolding concat_below
in_concat zero f i l w m = absurd (omega arith)
in_concat (suc n) f i l w m = go (indices i n) (λ k. in_concat n f i k w m)
  where
    go : Indices i n → (i < n → Memᴰ w (concat_below n f)) → Memᴰ w (concat_below n f ++ f n)
    go (same q) lower = Memᴰ.append_right (concat_below n f) (subst (λ (j : ℕ). Memᴰ w (f j)) q m)
    go (other q) lower = Memᴰ.append_left (f n) (lower (omega (arith, q)))

-- a list from a function is made of lists of one
tabulate_concat : (n : ℕ) (f : ℕ → Write) → tabulate n f ≡ concat_below n (λ i. f i ∷ [])
unfolding tabulate concat_below
tabulate_concat zero f = refl
tabulate_concat (suc n) f = rw (tabulate_concat n f)

pub each_tabulate : (P : Write → Type 0) (n : ℕ) (f : ℕ → Write) → ((i : ℕ) → i < n → P (f i)) → Each P (tabulate n f)
each_tabulate P n f h = rw (tabulate_concat n f) (each_concat P n (λ i. f i ∷ []) (λ i l. (h i l, tt)))

pub in_tabulate : (n : ℕ) (f : ℕ → Write) (i : ℕ) → i < n → Memᴰ (f i) (tabulate n f)
in_tabulate n f i l = rw (tabulate_concat n f) (in_concat n (λ j. f j ∷ []) i l (f i) (Memᴰ.head refl))

pub length_write_all : (st : List ℕ) (ws : List Write) → length (write_all st ws) ≡ length st
unfolding write_all write
length_write_all st [] = refl
length_write_all st (w ∷ ws) = length_write_all (write st w) ws ∙ length-set st w.cell w.value

-- one list of writes after another
pub write_all_append : (st : List ℕ) (ws vs : List Write) → write_all st (ws ++ vs) ≡ write_all (write_all st ws) vs
unfolding write_all
write_all_append st [] vs = refl
write_all_append st (w ∷ ws) vs = write_all_append (write st w) ws vs

-- one write: its cell is in the store still and holds its value, and the others are kept
still_in : (st : List ℕ) (w : Write) (a : ℕ) → a < length st → a < length (write st w)
unfolding write
still_in st w a l = lt-length-set st w.cell w.value l

pub written : (st : List ℕ) (w : Write) → w.cell < length st → cell (write st w) w.cell ≡ w.value
unfolding cell write
written st w l = get_or-set_same st w.cell w.value 0 l

unwritten : (st : List ℕ) (w : Write) (a : ℕ) → (a ≡ w.cell → ⊥) → cell (write st w) a ≡ cell st a
unfolding cell write
unwritten st w a h = get_or-set_other st w.cell a w.value 0 h

-- a cell that no write of the list goes to is kept
pub kept : (st : List ℕ) (ws : List Write) (a : ℕ) → Each (λ w. a ≡ w.cell → ⊥) ws
    → cell (write_all st ws) a ≡ cell st a
unfolding write_all
kept st [] a h = refl
kept st (w ∷ ws) a h = kept (write st w) ws a h.1 ∙ unwritten st w a h.0

-- 0 into cell a, and a list of such writes
abbrev pub zero_into : ℕ → Write
zero_into a = record { cell = a; value = 0 }

abbrev pub Zeros : List Write → Type 0
Zeros ws = Each (λ w. w.value ≡ 0) ws

-- under such a list a 0 stays, and a cell that is written becomes 0
still_zero : (st : List ℕ) (ws : List Write) (a : ℕ) → Zeros ws → a < length st → cell st a ≡ 0
    → cell (write_all st ws) a ≡ 0
unfolding write_all
still_zero st [] a z l e = e
still_zero st (w ∷ ws) a z l e = still_zero (write st w) ws a z.1 (still_in st w a l) (go (indices a w.cell))
  where
    go : Indices a w.cell → cell (write st w) a ≡ 0
    go (same q) = rw q (written st w (rw q at l) ∙ z.0)
    go (other q) = unwritten st w a q ∙ e

pub zeroed : (st : List ℕ) (ws : List Write) (a : ℕ) → Zeros ws → a < length st → Memᴰ (zero_into a) ws
    → cell (write_all st ws) a ≡ 0
unfolding write_all
zeroed st [] a z l m = elim m [ ]
zeroed st (w ∷ ws) a z l (Memᴰ.head q) =
    still_zero (write st w) ws a z.1 (still_in st w a l)
    (subst (λ (v : Write). cell (write st v) a ≡ 0) q (written st (zero_into a) l))
zeroed st (w ∷ ws) a z l (Memᴰ.tail m) = zeroed (write st w) ws a z.1 (still_in st w a l) m
