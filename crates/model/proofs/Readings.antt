-- Laws of reading requests one after the other: the bytes after one are at least two fewer, so that as much fuel as
-- there are bytes is enough.
use Prim.Native.Nat.{ℕ, zero, suc, ◌+◌, ◌≤◌}
use mathlib.Core.Path.{◌≡◌, refl, ap, ◌∙◌}
use mathlib.Core.List.{List, [], ◌∷◌, ◌++◌, append_assoc}
use mathlib.Core.Option.{none, some}
use lib.ListN.{length, length-append}
use native.Mathlib.Omega.{arith}
use Rattle.model.specs.declared.Record.{Record}
use Rattle.model.specs.Record.{Reading, AreBytes, body_bytes, write_fields, write_record}
use Rattle.model.specs.Program.{BudgetSource, full, given, Request, read_budget, read_request, reading_then, read_all}
use Rattle.model.proofs.RoundTrip.{read_is_written}
use Rattle.model.proofs.laws.RecordLaws.{both, same, later_bytes, body_written}

-- the bytes after a request: what is read comes before them, and is at least a bit map and a kind
pub record After (bytes after : List ℕ) : Type 0 where
  pub read : List ℕ
  pub split : bytes ≡ read ++ after
  pub some : 2 ≤ length read

pub fewer : {bytes after : List ℕ} → After bytes after → 2 + length after ≤ length bytes
fewer {after} a = omega (arith, a.some, ap length a.split ∙ length-append a.read after)

pub bytes_after : {bytes after : List ℕ} → After bytes after → AreBytes bytes → AreBytes after
bytes_after {after} a h = later_bytes a.read after a.split h

-- a front and a record
both_after : {bytes rest last after : List ℕ} (front : List ℕ) (r : Record) → bytes ≡ front ++ rest
    → rest ≡ write_record r ++ last → last ≡ after → After bytes after
unfolding write_record write_fields
both_after {after} front r e k q =
    record {
      read = front ++ write_record r;
      split = rw (append_assoc front (write_record r) after, ← q, ← k) e;
      some = simp length-append (omega arith);
    }

module _ (source : BudgetSource) (bytes : List ℕ) (h : AreBytes bytes) where
  budget_front : (b : ℕ) (rest : List ℕ) → read_budget source bytes ≡ some (b, rest)
      → (front : List ℕ) × (bytes ≡ front ++ rest)
  unfolding read_budget
  budget_front b rest e = go source e
    where
      go : (s : BudgetSource) → read_budget s bytes ≡ some (b, rest) → (front : List ℕ) × (bytes ≡ front ++ rest)
      go full e = ([], (same e).rest)
      go given e = (body_bytes b, body_written bytes b rest h e)

  pub request_after : (q : Request) (after : List ℕ) → read_request source bytes ≡ some (q, after) → After bytes after
  unfolding read_request
  request_after q after e =
      let (b, rest, budget, later) = both _ _ (q, after) e in
      let (r, last, content, end) = both _ _ (q, after) later in
      let (front, split) = budget_front b rest budget in
      let written = read_is_written rest r last (later_bytes front rest split h) content in
      both_after front r split written (same end).rest

-- more fuel than there are bytes changes nothing
pub fuel : (source : BudgetSource) (f g : ℕ) (bytes : List ℕ) → AreBytes bytes → length bytes ≤ f → length bytes ≤ g
    → read_all source f bytes ≡ read_all source g bytes
unfolding read_all reading_then
fuel source zero zero bytes h lf lg = refl
fuel source zero (suc g) [] h lf lg = refl
fuel source zero (suc g) (b ∷ bytes) h lf lg = absurd (omega arith)
fuel source (suc f) zero [] h lf lg = refl
fuel source (suc f) zero (b ∷ bytes) h lf lg = absurd (omega arith)
fuel source (suc f) (suc g) [] h lf lg = refl
fuel source (suc f) (suc g) (b ∷ bytes) h lf lg =
    go (read_request source (b ∷ bytes)) refl (λ rest k a b. fuel source f g rest k a b)
  where
    go : (x : Reading Request) → read_request source (b ∷ bytes) ≡ x
        → ((rest : List ℕ) → AreBytes rest → length rest ≤ f → length rest ≤ g
        → read_all source f rest ≡ read_all source g rest)
        → reading_then x (λ rest. read_all source f rest) ≡ reading_then x (λ rest. read_all source g rest)
    go none e lower = refl
    go (some r) e lower =
        let a = request_after source (b ∷ bytes) h r.0 r.1 e in
        rw (lower r.1 (bytes_after a h) (omega (arith, fewer a)) (omega (arith, fewer a)))
