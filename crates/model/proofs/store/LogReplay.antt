-- A message log replayed by a running index: after i of its n entries the index stands at the next one, and the word is
-- what the receipts before it make of the first word. The log's count stands in the cell `at`, an entry has w cells.
use Prim.Native.Nat.{ℕ, ◌+◌, ◌<◌, ◌≤◌}
use mathlib.Core.Path.{◌≡◌, refl, sym, ap, ◌∙◌}
use mathlib.Core.List.{List, map, map-append}
use native.Mathlib.Omega.{arith}
use Rattle.model.specs.declared.Receipt.{Receipt}
use Rattle.model.specs.Notation.{tabulate}
use Rattle.model.specs.Word.{replay_by}
use Rattle.model.specs.Form.{entry_cell, cells_from, entries_from, receipt_in}
use Rattle.model.proofs.laws.Lists.{tabulate_more}
use Rattle.model.proofs.laws.WordLaws.{replay_snoc}
use Rattle.model.proofs.store.RunningIndex.{RunningIndex, index_starts, index_goes_on}

-- what the first i receipts of the log make of a word
abbrev replayed : (ℕ → Receipt → ℕ) → List ℕ → ℕ → ℕ → ℕ → ℕ → ℕ
replayed rule store w at first i = replay_by rule first (map receipt_in (entries_from store w at i))

pub record LogReplay (rule : ℕ → Receipt → ℕ) (store : List ℕ) (w at n first entry word i : ℕ) : Type 0 where
  pub index : RunningIndex (at + 1) w n entry i
  pub entered : word ≡ replayed rule store w at first i

-- one receipt more
replay_more : (rule : ℕ → Receipt → ℕ) (store : List ℕ) (w at first i : ℕ)
    → replayed rule store w at first (i + 1)
    ≡ rule (replayed rule store w at first i) (receipt_in (cells_from store w (entry_cell w at i)))
unfolding entries_from
replay_more rule store w at first i =
    ap (replay_by rule first)
    (ap (map receipt_in) (tabulate_more i (λ j. cells_from store w (entry_cell w at j)))
    ∙ map-append receipt_in (entries_from store w at i) _)
    ∙ replay_snoc rule first (map receipt_in (entries_from store w at i)) _

module _ {rule : ℕ → Receipt → ℕ} {store : List ℕ} {w at n first : ℕ} where
  pub replay_starts : {entry : ℕ} → entry ≡ at + 1 → LogReplay rule store w at n first entry first 0
  unfolding tabulate replay_by entries_from
  replay_starts e = record { index = index_starts e; entered = refl }

  module _ {entry word i : ℕ} (r : LogReplay rule store w at n first entry word i) where
    pub replay_goes_on : i < n
        → LogReplay rule store w at n first (entry + w) (rule word (receipt_in (cells_from store w entry))) (i + 1)
    replay_goes_on l =
        record {
          index = index_goes_on r.index l;
          entered = rw (r.index.stands, r.entered) (sym (replay_more rule store w at first i));
        }

    pub replay_ends : n ≤ i → word ≡ replayed rule store w at first n
    replay_ends l = let e : i ≡ n = omega (arith, r.index.within) in rw e at r.entered
