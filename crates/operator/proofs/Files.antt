-- Laws of the file that `converter` writes: a cell's bytes, and each way that the carrying of a store ends.
use Rattle.std.proofs.Common.{◌≡◌, ℕ, ◌*◌, ◌≤◌, List, [], length, take, replicate, sym, ap, ◌∙◌, subst, arith}
use Rattle.std.proofs.lemmas.List.{length-take-le, get_or-take}
use Rattle.std.specs.Prelude.{Some, Result, Ok, Err}
use Rattle.operator.specs.declared.refused.Refused.{Refused}
use Rattle.model.specs.Form as form
use Rattle.model.specs.Layout.{store_cells, cell}
use Rattle.model.specs.Record.{body_bytes}
use Rattle.model.proofs.laws.Lists.{concat_cong}
use Rattle.report.specs.Appends.{Appends}
use Rattle.report.proofs.Appending.{at_most}
use Rattle.operator.specs.declared.Question.TheVariants.{Carry}
use Rattle.operator.specs.declared.carry.Way.{Way}
use Rattle.operator.specs.declared.carry.Way.TheVariants.{Upgrade, Downgrade}
use Rattle.operator.specs.Carrying.{source_form, target_form, carrying}
use Rattle.operator.specs.ConsoleAnswer.{ConsoleAnswer}
use Rattle.operator.specs.ConsoleText.{answer_text}
use Rattle.operator.specs.File.{cells_bytes, file_to, FilesStore, Files}
use Rattle.operator.proofs.Lines.{line_alone}

module _ {b a : List ℕ} {at r : ℕ} where
  pub cell_written : {xs : List ℕ} (v : ℕ) → xs ≡ body_bytes v → Appends (length xs) b at xs a r
      → Appends 4 b at (body_bytes v) a r
  unfolding body_bytes
  cell_written v e t = subst (λ (ys : List ℕ). Appends 4 b at ys a r) e (at_most t (omega (arith, ap length e)))

-- no form of a target has more cells than the new one
pub cells_few : (w : Way) → form.store_cells (target_form w) ≤ store_cells
cells_few Upgrade = omega arith
cells_few Downgrade = omega arith

-- what is printed of a carrying
pub file_of : (w : Way) (bytes : List ℕ) {x : ConsoleAnswer}
    → x ≡ carrying (source_form w) (target_form w) bytes (replicate store_cells 0)
    → answer_text (cells_bytes (form.store_cells (target_form w))) x [] ≡ file_to (Some (Carry w)) bytes
unfolding file_to
file_of w bytes e = rw e

-- the first n cells are written of the first n as of all
cells_taken : (n : ℕ) (store : List ℕ) → cells_bytes n (take n store) ≡ cells_bytes n store
unfolding cells_bytes cell
cells_taken n store =
    concat_cong n (λ i. body_bytes (cell (take n store) i)) (λ i. body_bytes (cell store i))
    (λ i l. ap body_bytes (get_or-take n store i 0 l))

-- all cells of the target's form, as many as were asked for
pub all_cells : (w : Way) (last : List ℕ) {count at r : ℕ} {b a : List ℕ} → count ≡ form.store_cells (target_form w)
    → count ≤ length last
    → Appends (length (take count last) * 4) b at (cells_bytes (length (take count last)) (take count last)) a r
    → Appends (store_cells * 4) b at (cells_bytes (form.store_cells (target_form w)) last) a r
all_cells w last {count} {at} {r} {b} {a} e l t =
    let size : length (take count last) ≡ count = length-take-le count last l in
    let whole : Appends (count * 4) b at (cells_bytes count last) a r =
    rw (← cells_taken count last) (rw size at t) in
    rw (← e) (at_most whole (omega (arith, e, cells_few w)))

-- so a store that is carried or not is filed so, where that is asked
pub store_filed : (w : Way) (bytes b a : List ℕ) (r : Result ℕ Refused) → FilesStore w bytes b a r
    → Files (file_to (Some (Carry w)) bytes) b a r
store_filed w bytes b a (Ok n) p = p
store_filed w bytes b a (Err r) (same, e) = (same, sym (file_of w bytes e) ∙ line_alone r _)
