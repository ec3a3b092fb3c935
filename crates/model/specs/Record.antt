-- Document 01, "Records": "A record opens with a bit map byte: bit 0 kind (1 byte, 1 to 9, as numbered above; 9 is
-- restart), bit 1 board (1 byte), bit 2 wire (1 byte), bit 3 body (4 bytes, lowest first); only fields whose bit stands
-- follow, in that order."
use Rattle.std.specs.Prelude.{ℕ, ◌+◌, ◌*◌, ◌/◌, ◌%◌, ◌<◌, Bool, true, false, cond, ◌&&◌, List, [], ◌∷◌, ◌++◌, get_or}
use Rattle.std.specs.Prelude.{ltb, eqb}
use Rattle.std.proofs.Math.Option.{Option, none, some}
use Rattle.model.specs.declared.Record.{Record}
use Rattle.model.specs.declared.Record.TheVariants.{Call, Recover}
use Rattle.model.specs.declared.Step.TheVariants.{Send, Receive, Begin, PhysicalCheckpoint, LogicalCheckpoint}
use Rattle.model.specs.declared.Step.TheVariants.{SendMarker, Commit, Abort}

-- a record's fields; "An absent board, wire or body is 0"
pub record Fields : Type 0 where
  pub kind : ℕ
  pub process : ℕ
  pub channel : ℕ
  pub body : ℕ

-- "send uses wire and body; take and note wire; copy and mark board"
unfoldable pub fields_of : Record → Fields
fields_of (Call (Send c b)) = record { kind = 1; process = 0; channel = c; body = b }
fields_of (Call (Receive c)) = record { kind = 2; process = 0; channel = c; body = 0 }
fields_of (Call Begin) = record { kind = 3; process = 0; channel = 0; body = 0 }
fields_of (Call (PhysicalCheckpoint p)) = record { kind = 4; process = p; channel = 0; body = 0 }
fields_of (Call (LogicalCheckpoint p)) = record { kind = 5; process = p; channel = 0; body = 0 }
fields_of (Call (SendMarker c)) = record { kind = 6; process = 0; channel = c; body = 0 }
fields_of (Call Commit) = record { kind = 7; process = 0; channel = 0; body = 0 }
fields_of (Call Abort) = record { kind = 8; process = 0; channel = 0; body = 0 }
fields_of Recover = record { kind = 9; process = 0; channel = 0; body = 0 }

unfoldable pub absent : ℕ → Bool
absent x = eqb x 0

unfoldable pub provided : Bool → Record → Option Record
provided true r = some r
provided false r = none

-- "A field the kind doesn't use is absent"
unfoldable pub record_of : Fields → Option Record
record_of f =
    cond (eqb f.kind 1) (provided (absent f.process) (Call (Send f.channel f.body)))
    (cond (eqb f.kind 2) (provided (absent f.process && absent f.body) (Call (Receive f.channel)))
    (cond (eqb f.kind 3) (provided (absent f.process && absent f.channel && absent f.body) (Call Begin))
    (cond (eqb f.kind 4) (provided (absent f.channel && absent f.body)
    (Call (PhysicalCheckpoint f.process)))
    (cond (eqb f.kind 5) (provided (absent f.channel && absent f.body) (Call (LogicalCheckpoint f.process)))
    (cond (eqb f.kind 6) (provided (absent f.process && absent f.body) (Call (SendMarker f.channel)))
    (cond (eqb f.kind 7) (provided (absent f.process && absent f.channel && absent f.body) (Call Commit))
    (cond (eqb f.kind 8) (provided (absent f.process && absent f.channel && absent f.body) (Call Abort))
    (cond (eqb f.kind 9) (provided (absent f.process && absent f.channel && absent f.body) Recover)
    none))))))))

-- Writing: the bit map, the kind, and the fields that are not 0. A field's bit is 1 where the field is present.
unfoldable pub bit : ℕ → ℕ
bit field = cond (absent field) 0 1

-- "bit 0 kind [..], bit 1 board [..], bit 2 wire [..], bit 3 body"
unfoldable pub map_of : Fields → ℕ
map_of f = 1 + 2 * bit f.process + 4 * bit f.channel + 8 * bit f.body

-- "4 bytes, lowest first"
unfoldable pub body_bytes : ℕ → List ℕ
body_bytes b = b % 256 ∷ b / 256 % 256 ∷ b / 65536 % 256 ∷ b / 16777216 % 256 ∷ []

unfoldable pub field_bytes : ℕ → List ℕ → List ℕ
field_bytes field bytes = cond (absent field) [] bytes

unfoldable pub write_fields : Fields → List ℕ
write_fields f =
    map_of f
    ∷ f.kind
    ∷ field_bytes f.process (f.process ∷ [])
    ++ field_bytes f.channel (f.channel ∷ [])
    ++ field_bytes f.body (body_bytes f.body)

unfoldable pub write_record : Record → List ℕ
write_record r = write_fields (fields_of r)

-- Reading: a value and the bytes after it, or nothing, which is refusal 7.
abbrev pub Reading : Type 0 → Type 0
Reading A = Option (A × List ℕ)

unfoldable pub and_then : {A B : Type 0} → Reading A → (A → List ℕ → Reading B) → Reading B
and_then none f = none
and_then (some r) f = f r.0 r.1

-- every element is a byte
abbrev pub AreBytes : List ℕ → Type 0
AreBytes bytes = (i : ℕ) → get_or bytes i 0 < 256

unfoldable pub read_byte : List ℕ → Reading ℕ
read_byte [] = none
read_byte (x ∷ bytes) = some (x, bytes)

-- what four bytes say, lowest first
abbrev pub lowest_first : ℕ → ℕ → ℕ → ℕ → ℕ
lowest_first a b c d = a + 256 * b + 65536 * c + 16777216 * d

unfoldable pub read_body : List ℕ → Reading ℕ
read_body [] = none
read_body (a ∷ []) = none
read_body (a ∷ b ∷ []) = none
read_body (a ∷ b ∷ c ∷ []) = none
read_body (a ∷ b ∷ c ∷ d ∷ bytes) = some (lowest_first a b c d, bytes)

-- a value that was read, unless it is 0
unfoldable pub nonzero : ℕ → List ℕ → Reading ℕ
nonzero x bytes = cond (absent x) none (some (x, bytes))

-- a field, by whether its bit stands: "An absent board, wire or body is 0, and a present one may not be 0."
unfoldable pub read_field : Bool → (List ℕ → Reading ℕ) → List ℕ → Reading ℕ
read_field false read bytes = some (0, bytes)
read_field true read bytes = and_then (read bytes) nonzero

unfoldable pub stands : ℕ → ℕ → Bool
stands weight m = eqb (m / weight % 2) 1

-- "Bit 0 always stands, bits 4 to 7 never."
unfoldable pub good_map : ℕ → Bool
good_map m = stands 1 m && ltb m 16

-- the fields after the bit map m and the kind
unfoldable pub fields_after : ℕ → ℕ → List ℕ → Reading Fields
fields_after m kind bytes =
    and_then (read_field (stands 2 m) read_byte bytes) λ p bytes₁.
    and_then (read_field (stands 4 m) read_byte bytes₁) λ c bytes₂.
    and_then (read_field (stands 8 m) read_body bytes₂) λ b bytes₃.
    some (record { kind = kind; process = p; channel = c; body = b }, bytes₃)

unfoldable pub read_fields : List ℕ → Reading Fields
read_fields [] = none
read_fields (m ∷ []) = none
read_fields (m ∷ kind ∷ bytes) = cond (good_map m) (fields_after m kind bytes) none

unfoldable pub with_rest : Option Record → List ℕ → Reading Record
with_rest none rest = none
with_rest (some r) rest = some (r, rest)

-- "The reader gives the step and the rest of the bytes [..] All else is 7."
unfoldable pub read_record : List ℕ → Reading Record
read_record bytes = and_then (read_fields bytes) λ f rest. with_rest (record_of f) rest
