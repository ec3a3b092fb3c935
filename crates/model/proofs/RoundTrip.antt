-- The records' round trip (the statement is RoundTrip of specs/RoundTrip.antt). Both ways are shown of any fields
-- first, and then of the table of kinds.
use Prim.Native.Nat.{ℕ, suc, ◌<◌}
use mathlib.Core.Path.{◌≡◌, refl, sym, subst, ◌∙◌}
use mathlib.Core.Bool.{Bool, true, cond, ◌&&◌}
use mathlib.Core.List.{List, [], ◌∷◌, ◌++◌, append_assoc}
use mathlib.Core.Option.{Option, none, some, none-ne-some, some-injective}
use lib.Dec.{eqb}
use borrow.Author.Tests.{eqb-true}
use Rattle.model.specs.declared.Record.{Record}
use Rattle.model.specs.declared.Record.TheVariants.{Call, Recover}
use Rattle.model.specs.declared.Step.TheVariants.{Send, Receive, Begin, PhysicalCheckpoint, LogicalCheckpoint}
use Rattle.model.specs.declared.Step.TheVariants.{SendMarker, Commit, Abort}
use Rattle.model.specs.Record.{Fields, absent, fields_of, provided, record_of, map_of, body_bytes, field_bytes}
use Rattle.model.specs.Record.{write_fields, write_record, AreBytes, read_byte, read_body, read_field, stands, good_map}
use Rattle.model.specs.Record.{fields_after, read_fields, with_rest, read_record}
use Rattle.model.specs.RoundTrip.{RoundTrip}
use Rattle.model.proofs.laws.Tests.{test, Tested, holds, fails, and_left, and_right}
use Rattle.model.proofs.laws.RecordLaws.{same, then, both, Maps, body_reads, body_written, byte_written, is_zero}
use Rattle.model.proofs.laws.RecordLaws.{field_reads, field_written, rest_bytes, map_reads, map_written}

-- the fields' bytes, one part after the other
fields_bytes :
    (f : Fields) (rest : List ℕ) →
    write_fields f ++ rest
    ≡ map_of f
    ∷ f.kind
    ∷ (field_bytes f.process (f.process ∷ [])
    ++ (field_bytes f.channel (f.channel ∷ [])
    ++ (field_bytes f.body (body_bytes f.body) ++ rest)))
unfolding write_fields
fields_bytes f rest = simp append_assoc

fields_read : (f : Fields) (rest : List ℕ) → f.body < 4294967296 → read_fields (write_fields f ++ rest) ≡ some (f, rest)
unfolding read_fields fields_after read_byte
fields_read f rest h =
    let maps : Maps (map_of f) f = map_reads f in
    rw (fields_bytes f rest, maps.good, maps.process, maps.channel, maps.body)
    (then _ (field_reads f.process read_byte (f.process ∷ []) _ refl)
    ∙ (then _ (field_reads f.channel read_byte (f.channel ∷ []) _ refl)
    ∙ then _ (field_reads f.body read_body (body_bytes f.body) rest (body_reads f.body rest h))))

-- from the three fields that `fields_after` reads
after_written :
    (m : ℕ) (f : Fields) (bytes bytes₁ bytes₂ rest : List ℕ) →
    good_map m ≡ true → AreBytes bytes →
    read_field (stands 2 m) read_byte bytes ≡ some (f.process, bytes₁) →
    read_field (stands 4 m) read_byte bytes₁ ≡ some (f.channel, bytes₂) →
    read_field (stands 8 m) read_body bytes₂ ≡ some (f.body, rest) →
    m ∷ f.kind ∷ bytes ≡ write_fields f ++ rest
after_written m f bytes bytes₁ bytes₂ rest good h ep ec eb =
    let p =
    field_written (stands 2 m) read_byte bytes f.process (f.process ∷ []) bytes₁
    (byte_written bytes f.process bytes₁) ep in
    let c =
    field_written (stands 4 m) read_byte bytes₁ f.channel (f.channel ∷ []) bytes₂
    (byte_written bytes₁ f.channel bytes₂) ec in
    let h₂ = rest_bytes c (rest_bytes p h) in
    let b =
    field_written (stands 8 m) read_body bytes₂ f.body (body_bytes f.body) rest
    (body_written bytes₂ f.body rest h₂) eb in
    let map = map_written m f (record { good = good; process = p.present; channel = c.present; body = b.present }) in
    rw (fields_bytes f rest) (cc (map, p.written, c.written, b.written))

fields_written : (bytes : List ℕ) (f : Fields) (rest : List ℕ) → AreBytes bytes → read_fields bytes ≡ some (f, rest)
    → bytes ≡ write_fields f ++ rest
unfolding read_fields fields_after
fields_written [] f rest h e = absurd (none-ne-some (f, rest) e)
fields_written (m ∷ []) f rest h e = absurd (none-ne-some (f, rest) e)
fields_written (m ∷ kind ∷ bytes) f rest h e = go (test (good_map m))
  where
    go : Tested (good_map m) → m ∷ kind ∷ bytes ≡ write_fields f ++ rest
    go (fails t) = absurd (none-ne-some (f, rest) (rw t at e))
    go (holds t) =
        let (p, bytes₁, ep, e₁) = both _ _ (f, rest) (rw t at e) in
        let (c, bytes₂, ec, e₂) = both _ _ (f, rest) e₁ in
        let (b, bytes₃, eb, e₃) = both _ _ (f, rest) e₂ in
        let g : Fields = record { kind = kind; process = p; channel = c; body = b } in
        subst (λ (r : Fields × List ℕ). m ∷ kind ∷ bytes ≡ write_fields r.0 ++ r.1)
        (some-injective (g, bytes₃) (f, rest) e₃)
        (after_written m g bytes bytes₁ bytes₂ bytes₃ t (λ i. h (suc (suc i))) ep ec eb)

-- the table of kinds, from records to fields and back
table_reads : (r : Record) → record_of (fields_of r) ≡ some r
unfolding record_of fields_of absent provided
table_reads (Call (Send c b)) = refl
table_reads (Call (Receive c)) = refl
table_reads (Call Begin) = refl
table_reads (Call (PhysicalCheckpoint p)) = refl
table_reads (Call (LogicalCheckpoint p)) = refl
table_reads (Call (SendMarker c)) = refl
table_reads (Call Commit) = refl
table_reads (Call Abort) = refl
table_reads Recover = refl

last_is_zero : (t : Bool) (x : ℕ) → (t && absent x) ≡ true → (t ≡ true) × (x ≡ 0)
last_is_zero t x e = (and_left t (absent x) e, is_zero x (and_right t (absent x) e))

module _ (f : Fields) where
  -- a row of `record_of`: kind n, the test that its unused fields are absent, its record s, and the rows below it
  row :
      (r : Record) (n : ℕ) (unused : Bool) (s : Record) (below : Option Record) →
      (f.kind ≡ n → unused ≡ true → fields_of s ≡ f) →
      (below ≡ some r → fields_of r ≡ f) →
      cond (eqb f.kind n) (provided unused s) below ≡ some r → fields_of r ≡ f
  unfolding provided
  row r n unused s below here others e = go (test (eqb f.kind n)) (test unused)
    where
      go : Tested (eqb f.kind n) → Tested unused → fields_of r ≡ f
      go (fails k) u = others (rw k at e)
      go (holds k) (fails u) = absurd (none-ne-some r (rw (k, u) at e))
      go (holds k) (holds u) = rw (← some-injective s r (rw (k, u) at e)) (here (eqb-true f.kind n k) u)

  -- by which fields a kind uses
  fields_are :
      {k p c b : ℕ} →
      f.kind ≡ k → f.process ≡ p → f.channel ≡ c → f.body ≡ b →
      ◌≡◌ {A = Fields} (record { kind = k; process = p; channel = c; body = b }) f
  fields_are k p c b = λ i. record { kind = sym k i; process = sym p i; channel = sym c i; body = sym b i }

  only_channel :
      {k : ℕ} → f.kind ≡ k → (absent f.process && absent f.body) ≡ true →
      ◌≡◌ {A = Fields} (record { kind = k; process = 0; channel = f.channel; body = 0 }) f
  only_channel k u =
      let (p, b) = last_is_zero (absent f.process) f.body u in fields_are k (is_zero f.process p) refl b

  only_process :
      {k : ℕ} → f.kind ≡ k → (absent f.channel && absent f.body) ≡ true →
      ◌≡◌ {A = Fields} (record { kind = k; process = f.process; channel = 0; body = 0 }) f
  only_process k u =
      let (c, b) = last_is_zero (absent f.channel) f.body u in fields_are k refl (is_zero f.channel c) b

  only_kind :
      {k : ℕ} → f.kind ≡ k → (absent f.process && absent f.channel && absent f.body) ≡ true →
      ◌≡◌ {A = Fields} (record { kind = k; process = 0; channel = 0; body = 0 }) f
  only_kind k u =
      let (v, b) = last_is_zero (absent f.process && absent f.channel) f.body u in
      let (p, c) = last_is_zero (absent f.process) f.channel v in
      fields_are k (is_zero f.process p) c b

  table_written : (r : Record) → record_of f ≡ some r → fields_of r ≡ f
  unfolding record_of fields_of
  table_written r =
      row r 1 _ _ _ (λ k u. fields_are k (is_zero f.process u) refl refl)
      (row r 2 _ _ _ only_channel
      (row r 3 _ _ _ only_kind
      (row r 4 _ _ _ only_process
      (row r 5 _ _ _ only_process
      (row r 6 _ _ _ only_channel
      (row r 7 _ _ _ only_kind
      (row r 8 _ _ _ only_kind
      (row r 9 _ _ _ only_kind
      (λ e. absurd (none-ne-some r e))))))))))

with_rest_lem :
    (o : Option Record) (after : List ℕ) (r : Record) (rest : List ℕ) →
    with_rest o after ≡ some (r, rest) → (o ≡ some r) × (after ≡ rest)
unfolding with_rest
with_rest_lem none after r rest e = absurd (none-ne-some (r, rest) e)
with_rest_lem (some s) after r rest e = (rw (same e).value, (same e).rest)

-- What is written reads back as that record, with the rest left over. The body has to fit 32 bits; process and channel
-- may be any numbers.
pub written_reads_back :
    (r : Record) (rest : List ℕ) →
    (fields_of r).body < 4294967296 → read_record (write_record r ++ rest) ≡ some (r, rest)
unfolding read_record write_record with_rest
written_reads_back r rest h = then _ (fields_read (fields_of r) rest h) ∙ rw (table_reads r)

-- Bytes that read are the bytes that writing the record gives, followed by the rest.
pub read_is_written :
    (bytes : List ℕ) (r : Record) (rest : List ℕ) →
    AreBytes bytes → read_record bytes ≡ some (r, rest) → bytes ≡ write_record r ++ rest
unfolding read_record write_record
read_is_written bytes r rest h e =
    let (f, after, read, made) = both _ _ (r, rest) e in
    let (kind, left) = with_rest_lem (record_of f) after r rest made in
    cc (fields_written bytes f after h read, table_written f r kind, left)

pub round_trip : RoundTrip
round_trip = record { written = written_reads_back; read = read_is_written }
