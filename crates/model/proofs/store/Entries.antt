-- The entries of a log whose count stands in the cell `at`, of w cells each, whatever log it is: one that is written is
-- the last, and those before it stay. Where the power is lost before the count is written, nothing shows.
use Prim.Native.Nat.{ℕ, zero, suc, ◌+◌, ◌*◌, ◌<◌, ◌≤◌}
use mathlib.Core.Path.{◌≡◌, refl, ap, ap₂, ◌∙◌}
use mathlib.Core.List.{List, [], ◌∷◌, ◌++◌}
use lib.ListN.{length, get_or, take, length-append}
use lib.Seq.{take-append-le, take-suc, length-take-le}
use native.Mathlib.Omega.{arith}
use native.Mathlib.Numerals.{add-one}
use native.Mathlib.Nat.{mul-suc, mul-le-mul_left, lt_of_mul-lt-mul_left}
use Rattle.model.specs.Layout.{cell, entry_cell, cells_from, entries_from}
use Rattle.model.specs.Write.{Write, write, write_all, cell_writes, append_writes}
use Rattle.model.proofs.laws.Lists.{tabulate_cong, tabulate_more}
use Rattle.model.proofs.store.Writes.{Each, each_take, each_map, length_write_all, write_all_append, written}
use Rattle.model.proofs.store.Writes.{kept}

-- entry i ends where a later one begins, or before
pub entry_ends : (w i k : ℕ) → i < k → w * i + w ≤ w * k
entry_ends w i k l =
    let next : suc i ≤ k = omega arith in omega (arith, mul-suc w i, mul-le-mul_left w next)

-- the cells from lo on and below hi
pub record Between (lo hi a : ℕ) : Type 0 where
  pub from : lo ≤ a
  pub to : a < hi

-- a cell is in one entry alone
pub one_entry : (w i j a : ℕ) → Between (w * i) (w * i + w) a → Between (w * j) (w * j + w) a → i ≡ j
one_entry w i j a b d =
    let low : i < suc j = lt_of_mul-lt-mul_left w (omega (arith, mul-suc w j, b.from, d.to)) in
    let high : j < suc i = lt_of_mul-lt-mul_left w (omega (arith, mul-suc w i, d.from, b.to)) in
    omega (arith, low, high)

-- cells that are the same in two stores hold the same
cells_same : (st st' : List ℕ) (w at : ℕ) → ((a : ℕ) → Between at (at + w) a → cell st' a ≡ cell st a)
    → cells_from st' w at ≡ cells_from st w at
unfolding cells_from
cells_same st st' zero at h = refl
cells_same st st' (suc w) at h =
    ap₂ (λ (v : ℕ) (vs : List ℕ). v ∷ vs) (h at (record { from = omega arith; to = omega arith }))
    (cells_same st st' w (at + 1) (λ a b. h a (record { from = omega (arith, b.from); to = omega (arith, b.to) })))

-- and so do entries
pub entries_same : (st st' : List ℕ) (w at k : ℕ)
    → ((a : ℕ) → Between (at + 1) (entry_cell w at k) a → cell st' a ≡ cell st a)
    → entries_from st' w at k ≡ entries_from st w at k
unfolding entries_from
entries_same st st' w at k h =
    tabulate_cong k (λ i. cells_from st' w (entry_cell w at i)) (λ i. cells_from st w (entry_cell w at i))
    (λ i l.
    cells_same st st' w (entry_cell w at i)
    (λ a b.
    h a (record { from = omega (arith, b.from); to = omega (arith, b.to, entry_ends w i k l) })))

-- values into the cells from `at` on: where these writes go, and that the values are there
pub cells_into : (lo hi at : ℕ) (vs : List ℕ) → lo ≤ at → at + length vs ≤ hi
    → Each (λ x. Between lo hi x.cell) (cell_writes at vs)
unfolding cell_writes
cells_into lo hi at [] l m = tt
cells_into lo hi at (v ∷ vs) l m =
    (record { from = l; to = omega arith }, cells_into lo hi (at + 1) vs (omega arith) (omega arith))

-- values into the cells from `at` on, one more of them
cells_append : (at : ℕ) (xs ys : List ℕ)
    → cell_writes at (xs ++ ys) ≡ cell_writes at xs ++ cell_writes (at + length xs) ys
unfolding cell_writes
cells_append at [] ys = let e : at ≡ at + 0 = omega arith in ap (λ (a : ℕ). cell_writes a ys) e
cells_append at (x ∷ xs) ys =
    let e : at + 1 + length xs ≡ at + length (x ∷ xs) = omega arith in
    ap (λ (ws : List Write). record { cell = at; value = x } ∷ ws)
    (cells_append (at + 1) xs ys ∙ ap (λ (a : ℕ). cell_writes (at + 1) xs ++ cell_writes a ys) e)

pub cells_more : (at : ℕ) (vs : List ℕ) (i : ℕ) → i < length vs
    → cell_writes at (take (i + 1) vs)
    ≡ cell_writes at (take i vs) ++ (record { cell = at + i; value = get_or vs i 0 } ∷ [])
unfolding cell_writes
cells_more at vs i l =
    rw (add-one i, take-suc vs i 0 l)
    (cells_append at (take i vs) (get_or vs i 0 ∷ [])
    ∙ rw (length-take-le i vs (omega arith)))

cells_outside : (st : List ℕ) (at : ℕ) (vs : List ℕ) (a : ℕ) → (Between at (at + length vs) a → ⊥)
    → cell (write_all st (cell_writes at vs)) a ≡ cell st a
cells_outside st at vs a h =
    kept st (cell_writes at vs) a
    (each_map (λ x. Between at (at + length vs) x.cell) (λ x. a ≡ x.cell → ⊥) (λ x b e. h (rw e b))
    (cell_writes at vs)
    (cells_into at (at + length vs) at vs (omega arith) (omega arith)))

cells_written : (st : List ℕ) (at : ℕ) (vs : List ℕ) → at + length vs ≤ length st
    → cells_from (write_all st (cell_writes at vs)) (length vs) at ≡ vs
unfolding cells_from write_all cell_writes
cells_written st at [] l = refl
cells_written st at (v ∷ vs) l =
    let x : Write = record { cell = at; value = v } in
    let still : at + 1 + length vs ≤ length (write st x) = omega (arith, length_write_all st (x ∷ [])) in
    ap₂ (λ (u : ℕ) (us : List ℕ). u ∷ us)
    (cells_outside (write st x) (at + 1) vs at (λ b. omega (arith, b.from)) ∙ written st x (omega arith))
    (cells_written (write st x) (at + 1) vs still)

-- an entry after the first `count`, and then the raised count
module _ (st : List ℕ) (at count : ℕ) (entry : List ℕ) where
  abbrev w : ℕ
  w = length entry

  abbrev first : ℕ
  first = entry_cell w at count

  abbrev cells : List Write
  cells = cell_writes first entry

  abbrev counting : Write
  counting = record { cell = at; value = count + 1 }

  -- broken off before the count is written: the entry's cells are behind those that are read
  pub append_lost : (b : ℕ) → b < length (append_writes at count entry) → (a : ℕ) → a < first
      → cell (write_all st (take b (append_writes at count entry))) a ≡ cell st a
  unfolding append_writes
  append_lost b l a m =
      ap (λ (ws : List Write). cell (write_all st ws) a)
      (take-append-le b cells (counting ∷ []) (omega (arith, length-append cells (counting ∷ []))))
      ∙ kept st (take b cells) a
      (each_map (λ x. Between first (first + w) x.cell) (λ x. a ≡ x.cell → ⊥) (λ x c e. omega (arith, c.from))
      (take b cells)
      (each_take (λ x. Between first (first + w) x.cell) b cells
      (cells_into first (first + w) first entry (omega arith) (omega arith))))

  module _ (inside : first + w ≤ length st) where
    abbrev after : List ℕ
    after = write_all st (append_writes at count entry)

    -- a cell that isn't the count's is as the entry's cells leave it
    past_count : (a : ℕ) → (a ≡ at → ⊥) → cell after a ≡ cell (write_all st cells) a
    unfolding append_writes
    past_count a h =
        ap (λ (x : List ℕ). cell x a) (write_all_append st cells (counting ∷ []))
        ∙ kept (write_all st cells) (counting ∷ []) a (h, tt)

    pub append_counts : cell after at ≡ count + 1
    unfolding write_all append_writes
    append_counts =
        ap (λ (x : List ℕ). cell x at) (write_all_append st cells (counting ∷ []))
        ∙ written (write_all st cells) counting (omega (arith, length_write_all st cells))

    earlier : (a : ℕ) → Between (at + 1) first a → cell after a ≡ cell st a
    earlier a b =
        past_count a (λ e. omega (arith, b.from))
        ∙ cells_outside st first entry a (λ c. omega (arith, b.to, c.from))

    -- the entries that were there stay
    pub append_behind : entries_from after w at count ≡ entries_from st w at count
    append_behind = entries_same st after w at count earlier

    pub appends : entries_from after w at (count + 1) ≡ entries_from st w at count ++ (entry ∷ [])
    unfolding entries_from
    appends =
        tabulate_more count (λ i. cells_from after w (entry_cell w at i))
        ∙ ap₂ (λ (es : List (List ℕ)) (e : List ℕ). es ++ (e ∷ [])) append_behind
        (cells_same (write_all st cells) after w first (λ a b. past_count a (λ e. omega (arith, b.from)))
        ∙ cells_written st first entry inside)
