-- Laws of the lines of a part: how long a record is, and the lines one after the other.
use Prim.Native.Nat.{ℕ, ◌+◌, ◌-◌, ◌*◌, ◌<◌, ◌≤◌}
use mathlib.Core.Path.{◌≡◌, refl, sym, ap, subst, ◌∙◌}
use mathlib.Core.List.{List, [], ◌∷◌, ◌++◌}
use lib.ListN.{length, get_or, length-append, length-take}
use lib.Seq.{take_at}
use native.Mathlib.Omega.{arith}
use Rattle.model.specs.declared.Record.{Record}
use Rattle.model.specs.declared.Record.TheVariants.{Call, Recover}
use Rattle.model.specs.declared.Step.TheVariants.{Send, Receive, Begin, PhysicalCheckpoint}
use Rattle.model.specs.declared.Step.TheVariants.{LogicalCheckpoint, SendMarker, Commit, Abort}
use Rattle.model.specs.Record.{absent, body_bytes, field_bytes, fields_of, write_fields, write_record}
use Rattle.model.specs.Notation.{concat_below}
use Rattle.model.proofs.laws.Tests.{either}
use Rattle.model.proofs.laws.Lists.{concat_cong}
use Rattle.record.specs.declared.Written.{Written}
use Rattle.record.specs.Written.{longest, holding, bytes_of, written}
use Rattle.reduction.specs.declared.part.Part.{Part}
use Rattle.reduction.specs.Parts.{kept, Held}
use Rattle.reduction.proofs.Parts.{kept_length, kept_at}
use Rattle.report.specs.Appends.{Appends}
use Rattle.report.specs.Hex.{call_text}
use Rattle.report.specs.TextBytes.{call_bytes, sent_bytes, last_bytes}
use Rattle.report.proofs.Appending.{at_most, ◌then◌}
use Rattle.operator.specs.ConsoleText.{kept_line, last_kept, part_text, part_bytes}

-- a field's bytes, of which an absent one has none
field_length : (field : ℕ) (bytes : List ℕ) → length (field_bytes field bytes) ≤ length bytes
unfolding field_bytes
field_length field bytes =
    either (λ (bs : List ℕ). length bs ≤ length bytes) (absent field) [] bytes (omega arith) (omega arith)

absent_length : (bytes : List ℕ) → length (field_bytes 0 bytes) ≡ 0
unfolding field_bytes absent
absent_length bytes = refl

-- a map, a kind, and fields of 5 bytes at most
fields_length : (kind p c b : ℕ)
    → length (field_bytes p (p ∷ [])) + length (field_bytes c (c ∷ [])) + length (field_bytes b (body_bytes b)) ≤ 5
    → length (write_fields (record { kind = kind; process = p; channel = c; body = b })) ≤ longest
unfolding write_fields
fields_length kind p c b l =
    let ps : List ℕ = field_bytes p (p ∷ []) in
    let cs : List ℕ = field_bytes c (c ∷ []) in
    let bs : List ℕ = field_bytes b (body_bytes b) in
    omega (arith, length-append (ps ++ cs) bs, length-append ps cs)

-- with a channel and a body, or a process
sent : (kind c b : ℕ) → length (write_fields (record { kind = kind; process = 0; channel = c; body = b })) ≤ longest
unfolding body_bytes
sent kind c b =
    fields_length kind 0 c b
    (omega (arith, absent_length (0 ∷ []), field_length c (c ∷ []), field_length b (body_bytes b)))

saved : (kind p : ℕ) → length (write_fields (record { kind = kind; process = p; channel = 0; body = 0 })) ≤ longest
saved kind p =
    fields_length kind p 0 0
    (omega (arith, field_length p (p ∷ []), absent_length (0 ∷ []), absent_length (body_bytes 0)))

record_length : (r : Record) → length (write_record r) ≤ longest
unfolding write_record fields_of
record_length (Call (Send c b)) = sent 1 c b
record_length (Call (Receive c)) = sent 2 c 0
record_length (Call Begin) = saved 3 0
record_length (Call (PhysicalCheckpoint p)) = saved 4 p
record_length (Call (LogicalCheckpoint p)) = saved 5 p
record_length (Call (SendMarker c)) = sent 6 c 0
record_length (Call Commit) = saved 7 0
record_length (Call Abort) = saved 8 0
record_length Recover = saved 9 0

-- what was written of a record: its bytes and how many they are
module _ (r : Record) {w : Written} (e : w ≡ written r) where
  pub written_bytes : bytes_of w ≡ write_record r
  unfolding written holding
  written_bytes =
      ap (λ (x : Written). bytes_of x) e ∙ take_at (write_record r) _ (length (write_record r)) refl

  pub written_count : w.count ≡ length (bytes_of w)
  unfolding written holding
  written_count = ap (λ (x : Written). x.count) e ∙ ap (λ (bs : List ℕ). length bs) (sym written_bytes)

  pub written_within : w.count ≤ length w.bytes
  written_within = omega (arith, written_count, length-take w.count w.bytes)

  pub written_few : w.count ≤ longest
  written_few = rw (written_count, written_bytes) (record_length r)

  -- so a line that opens with them, whatever ends it in so many bytes
  pub line_printed : (number most : ℕ) (end : List ℕ) {b a : List ℕ} {at n : ℕ}
      → Appends (call_bytes (length (bytes_of w)) + most) b at (call_text (bytes_of w) number ++ end) a n
      → Appends (call_bytes longest + most) b at (call_text (write_record r) number ++ end) a n
  line_printed number most end {b} {a} {at} {n} p =
      at_most
      (subst (λ (bs : List ℕ). Appends (call_bytes (length bs) + most) b at (call_text bs number ++ end) a n)
      written_bytes p)
      (omega (arith, record_length r))

-- the lines of a part, by its array's places
abbrev pub line : (ℕ → Record) → Part → List ℕ → ℕ → List ℕ
line call part rooms i =
    let place : ℕ = get_or part.places i 0 in kept_line (call place) place (get_or rooms i 0)

module _ (call : ℕ → Record) {part : Part} (rooms : List ℕ) (h : Held part) (some_call : 0 < part.count)
    (n : ℕ) where
  abbrev line_at : ℕ → ℕ → List ℕ
  line_at i place = kept_line (call place) place (get_or rooms i 0)

  abbrev last_at : ℕ → List ℕ
  last_at place = last_kept (call place) place n

  place_at_lem : (i : ℕ) → i < part.count → get_or part.places i 0 ≡ get_or (kept part) i 0
  place_at_lem i l = sym (kept_at h i l)

  printed_text : concat_below (part.count - 1) (line call part rooms) ++ last_at (get_or part.places (part.count - 1) 0)
      ≡ part_text call (kept part) rooms n
  printed_text =
      let few = kept_length h in
      rw (
        few,
        place_at_lem (part.count - 1) (omega arith),
        concat_cong (part.count - 1) (line call part rooms) (λ i. line_at i (get_or (kept part) i 0))
            (λ i l. ap (line_at i) (place_at_lem i (omega arith))),
      )

  pub part_printed : {b m a : List ℕ} {at r s : ℕ}
      → Appends ((part.count - 1) * sent_bytes longest) b at (concat_below (part.count - 1) (line call part rooms)) m r
      → Appends (last_bytes longest) m r (last_at (get_or part.places (part.count - 1) 0)) a s
      → Appends part_bytes b at (part_text call (kept part) rooms n) a s
  part_printed {b} {a = a} {at} {s = s} p q =
      subst (λ (text : List ℕ). Appends part_bytes b at text a s) printed_text
      (at_most (p then q) (omega (arith, h.within)))
