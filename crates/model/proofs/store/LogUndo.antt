-- A late process's message log undone by a running index: from the end of its n entries down, and with i of them left
-- the index stands behind the i-th one, and the word is what the anti-messages behind it make of the first word, the
-- last one first. The log's count stands in the cell `at`, an entry has w cells.
use Prim.Native.Nat.{ℕ, ◌*◌, ◌-◌, ◌<◌, ◌≤◌, suc}
use mathlib.Core.Path.{◌≡◌, sym, ap, ◌∙◌}
use mathlib.Core.List.{List, map}
use lib.ListN.{length, drop, get_or, length-map, drop_of_length-le}
use lib.Seq.{drop-cons}
use native.Mathlib.Omega.{arith}
use native.Mathlib.Nat.{mul-suc}
use Rattle.model.specs.declared.Receipt.{Receipt}
use Rattle.model.specs.Word.{receipt, undo_by}
use Rattle.model.specs.Form.{entry_cell, cells_from, entries_from, receipt_in}
use Rattle.model.proofs.laws.Lists.{tabulate_length, tabulate_at, map_tabulate}

-- the receipts of the log
abbrev receipts : List ℕ → ℕ → ℕ → ℕ → List Receipt
receipts store w at n = map receipt_in (entries_from store w at n)

pub record LogUndo (rule : ℕ → Receipt → ℕ) (store : List ℕ) (w at n first entry word i : ℕ) : Type 0 where
  pub within : i ≤ n
  pub stands : entry ≡ entry_cell w at i
  pub undone : word ≡ undo_by rule first (drop i (receipts store w at n))

module _ (store : List ℕ) (w at n : ℕ) where
  receipts_length : length (receipts store w at n) ≡ n
  unfolding entries_from
  receipts_length = length-map (entries_from store w at n) receipt_in ∙ tabulate_length n _

  receipt_at : (i : ℕ) (d : Receipt) → i < n
      → get_or (receipts store w at n) i d ≡ receipt_in (cells_from store w (entry_cell w at i))
  unfolding entries_from
  receipt_at i d l =
      ap (λ (rs : List Receipt). get_or rs i d)
      (map_tabulate receipt_in n (λ j. cells_from store w (entry_cell w at j)))
      ∙ tabulate_at n (λ j. receipt_in (cells_from store w (entry_cell w at j))) i d l

module _ {rule : ℕ → Receipt → ℕ} {store : List ℕ} {w at n first : ℕ} where
  pub undo_starts : {entry : ℕ} → entry ≡ entry_cell w at n → LogUndo rule store w at n first entry first n
  unfolding undo_by
  undo_starts e =
      record {
        within = omega arith;
        stands = e;
        undone =
            ap (undo_by rule first)
            (sym (drop_of_length-le (receipts store w at n) {i = n} (omega (arith, receipts_length store w at n))));
      }

  module _ {entry word i : ℕ} (r : LogUndo rule store w at n first entry word i) where
    -- one anti-message more, the one before the index
    pub undo_goes_on : 0 < i
        → LogUndo rule store w at n first (entry - w) (rule word (receipt_in (cells_from store w (entry - w)))) (i - 1)
    unfolding undo_by
    undo_goes_on l =
        let j : ℕ = i - 1 in
        let more : suc j ≡ i = omega arith in
        let below : j < n = omega (arith, r.within) in
        let rs : List Receipt = receipts store w at n in
        let here : entry - w ≡ entry_cell w at j = omega (arith, r.stands, mul-suc w j, ap (λ (x : ℕ). w * x) more) in
        let last : Receipt = get_or rs j (receipt 0 0) in
        let step : undo_by rule first (drop j rs) ≡ rule (undo_by rule first (drop (suc j) rs)) last =
        ap (undo_by rule first) (drop-cons rs j (receipt 0 0) (rw (receipts_length store w at n) below)) in
        record {
          within = omega (arith, r.within);
          stands = here;
          undone =
              sym
              (step
              ∙ ap (λ (x : ℕ). rule (undo_by rule first (drop x rs)) last) more
              ∙ ap (λ (x : ℕ). rule x last) (sym r.undone)
              ∙ ap (rule word)
              (receipt_at store w at n j (receipt 0 0) below
              ∙ ap (λ (a : ℕ). receipt_in (cells_from store w a)) (sym here)));
        }

    pub undo_ends : i ≤ 0 → word ≡ undo_by rule first (receipts store w at n)
    undo_ends l =
        let e : i ≡ 0 = omega arith in
        r.undone ∙ ap (λ (x : ℕ). undo_by rule first (drop x (receipts store w at n))) e
