-- What a list of writes leaves in a cell, whatever the store held before.
use Prim.Native.Nat.{ℕ, zero, suc, ◌+◌, ◌<◌}
use mathlib.Core.Path.{◌≡◌, subst, ap, ◌∙◌}
use mathlib.Core.List.{List, [], ◌∷◌, ◌++◌}
use lib.ListN.{length, get_or}
use native.Mathlib.Omega.{arith}
use Rattle.model.specs.Notation.{concat_below}
use Rattle.model.specs.Form.{cell}
use Rattle.model.specs.Write.{Write, write_all, cell_writes}
use Rattle.model.proofs.laws.Functions.{Indices, same, other, indices}
use Rattle.model.proofs.store.Writes.{Each, each_map, length_write_all, write_all_append, written, kept}
use Rattle.model.proofs.store.Entries.{Between, cells_into}

-- after the writes cell a holds v
pub record LeavesIn (ws : List Write) (a v : ℕ) : Type 0 where
  pub holds : (st : List ℕ) → a < length st → cell (write_all st ws) a ≡ v

-- no write goes to cell a
abbrev pub Spares : List Write → ℕ → Type 0
Spares ws a = Each (λ w. a ≡ w.cell → ⊥) ws

pub leaves_one : (w : Write) → LeavesIn (w ∷ []) w.cell w.value
unfolding write_all
leaves_one w = record { holds = λ st l. written st w l }

-- what is left stays where the next writes go elsewhere, and is there where they leave it
pub leaves_first : {ws : List Write} {a v : ℕ} → LeavesIn ws a v → (vs : List Write) → Spares vs a
    → LeavesIn (ws ++ vs) a v
leaves_first {ws} {a} h vs spared =
    record {
      holds = λ st l.
          ap (λ (x : List ℕ). cell x a) (write_all_append st ws vs)
          ∙ kept (write_all st ws) vs a spared
          ∙ h.holds st l;
    }

pub leaves_last : (ws : List Write) {vs : List Write} {a v : ℕ} → LeavesIn vs a v → LeavesIn (ws ++ vs) a v
leaves_last ws {vs} {a} h =
    record {
      holds = λ st l.
          ap (λ (x : List ℕ). cell x a) (write_all_append st ws vs)
          ∙ h.holds (write_all st ws) (rw (length_write_all st ws) l);
    }

-- one list of several leaves it, and the others spare it
pub leaves_concat : (n : ℕ) (f : ℕ → List Write) (i a v : ℕ) → i < n → LeavesIn (f i) a v
    → ((j : ℕ) → j < n → (i ≡ j → ⊥) → Spares (f j) a) → LeavesIn (concat_below n f) a v
unfolding concat_below
leaves_concat zero f i a v l h spared = absurd (omega arith)
leaves_concat (suc n) f i a v l h spared =
    go (indices i n) (λ m. leaves_concat n f i a v m h (λ j k. spared j (omega arith)))
  where
    go : Indices i n → (i < n → LeavesIn (concat_below n f) a v) → LeavesIn (concat_below n f ++ f n) a v
    go (same e) before = leaves_last (concat_below n f) (subst (λ (j : ℕ). LeavesIn (f j) a v) e h)
    go (other e) before = leaves_first (before (omega (arith, e))) (f n) (spared n (omega arith) e)

-- values into the cells from `at` on: they spare the others, and leave each value in its cell
pub cells_spare : (at : ℕ) (vs : List ℕ) (a : ℕ) → (Between at (at + length vs) a → ⊥) → Spares (cell_writes at vs) a
cells_spare at vs a h =
    each_map (λ w. Between at (at + length vs) w.cell) (λ w. a ≡ w.cell → ⊥) (λ w b e. h (rw e b))
    (cell_writes at vs)
    (cells_into at (at + length vs) at vs (omega arith) (omega arith))

pub cells_leave : (at : ℕ) (vs : List ℕ) (i : ℕ) → i < length vs → LeavesIn (cell_writes at vs) (at + i) (get_or vs i 0)
unfolding cell_writes
cells_leave at [] i l = absurd (omega arith)
cells_leave at (v ∷ vs) zero l =
    let here : at ≡ at + 0 = omega arith in
    subst (λ (a : ℕ). LeavesIn (cell_writes at (v ∷ vs)) a v) here
    (leaves_first (leaves_one (record { cell = at; value = v })) (cell_writes (at + 1) vs)
    (cells_spare (at + 1) vs at (λ b. omega (arith, b.from))))
cells_leave at (v ∷ vs) (suc i) l =
    let there : at + 1 + i ≡ at + suc i = omega arith in
    subst (λ (a : ℕ). LeavesIn (cell_writes at (v ∷ vs)) a (get_or vs i 0)) there
    (leaves_last (record { cell = at; value = v } ∷ []) (cells_leave (at + 1) vs i (omega arith)))
