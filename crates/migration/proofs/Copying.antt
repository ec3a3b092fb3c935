-- A channel log copied from one store to another, a body at a time, and then its count.
use Prim.Native.Nat.{ℕ, ◌+◌, ◌<◌, ◌≤◌}
use mathlib.Core.Path.{◌≡◌, sym, ap, ◌∙◌}
use mathlib.Core.List.{List, [], ◌∷◌, ◌++◌}
use lib.ListN.{length, get_or, take, set}
use lib.Seq.{take-length}
use native.Mathlib.Omega.{arith}
use Rattle.model.specs.Form.{cell}
use Rattle.model.specs.Write.{Write, write, write_all, cell_writes}
use Rattle.model.proofs.laws.Lists.{tabulate_length, tabulate_at}
use Rattle.model.proofs.store.Writes.{length_write_all, write_all_append}
use Rattle.model.proofs.store.Entries.{cells_more}
use Rattle.model.proofs.store.Readable.{bodies_are}
use Rattle.reading.specs.Source.{bodies_at}
use Rattle.migration.specs.Carry.{bodies_writes}

-- one write after others
pub one_more : (before : List ℕ) (ws : List Write) {after : List ℕ} → after ≡ write_all before ws → (at v : ℕ)
    → set after at v ≡ write_all before (ws ++ (record { cell = at; value = v } ∷ []))
unfolding write write_all
one_more before ws e at v =
    ap (λ (st : List ℕ). set st at v) e ∙ sym (write_all_append before ws (record { cell = at; value = v } ∷ []))

-- the first i bodies of the source's log, from the target's cell after `to` on
pub record Copied (source : List ℕ) (from : ℕ) (before : List ℕ) (to : ℕ) (after : List ℕ) (i : ℕ) : Type 0 where
  pub within : i ≤ cell source from
  pub bodies : after ≡ write_all before (cell_writes (to + 1) (take i (bodies_at source from)))

module _ (source : List ℕ) (from : ℕ) where
  pub counted : length (bodies_at source from) ≡ cell source from
  counted =
      ap length (bodies_are source from (cell source from))
      ∙ tabulate_length (cell source from) (λ i. cell source (from + 1 + i))

  pub body_at : (i : ℕ) → i < cell source from → get_or (bodies_at source from) i 0 ≡ cell source (from + 1 + i)
  body_at i l =
      ap (λ (bs : List ℕ). get_or bs i 0) (bodies_are source from (cell source from))
      ∙ tabulate_at (cell source from) (λ j. cell source (from + 1 + j)) i 0 l

module _ {source : List ℕ} {from : ℕ} {before : List ℕ} {to : ℕ} {after : List ℕ} {i : ℕ}
    (c : Copied source from before to after i) where
  pub copied_more : i < cell source from
      → Copied source from before to (set after (to + 1 + i) (cell source (from + 1 + i))) (i + 1)
  copied_more l =
      record {
        within = omega arith;
        bodies =
            one_more before _ c.bodies (to + 1 + i) (cell source (from + 1 + i))
            ∙ ap (write_all before)
            (rw (← (body_at source from i l))
            (sym (cells_more (to + 1) (bodies_at source from) i (rw (counted source from) l))));
      }

  -- all of them, and the count
  pub copied_all : cell source from ≤ i
      → set after to (cell source from) ≡ write_all before (bodies_writes to (bodies_at source from))
  copied_all l =
      let all : i ≡ length (bodies_at source from) = omega (arith, c.within, counted source from) in
      let writes : List ℕ → ℕ → List Write =
      λ bs n. cell_writes (to + 1) bs ++ (record { cell = to; value = n } ∷ []) in
      let bodies : List ℕ = bodies_at source from in
      one_more before _ c.bodies to (cell source from)
      ∙ ap (λ (bs : List ℕ). write_all before (writes bs (cell source from)))
      (ap (λ (j : ℕ). take j bodies) all ∙ take-length bodies)
      ∙ ap (λ (n : ℕ). write_all before (writes bodies n)) (sym (counted source from))

  pub copied_length : length after ≡ length before
  copied_length = rw c.bodies (length_write_all before _)
