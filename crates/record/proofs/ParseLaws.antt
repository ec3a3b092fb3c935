-- Laws of a whole reading: its start by the bit map, and its fields one after the other.
use Rattle.std.proofs.Common.{◌≡◌, ℕ, ◌≤◌, ◌<◌, Bool, true, false, List, [], ◌∷◌, length, get_or, drop}
use Rattle.std.proofs.Common.{slice_range, refl, sym, ◌∙◌, length-drop, arith}
use Rattle.std.proofs.Math.Seq.{take_all}
use Rattle.std.proofs.Math.Option.{none, some}
use Rattle.model.specs.declared.Record.{Record}
use Rattle.model.specs.Record.{Reading, and_then, good_map, stands, read_field, read_byte, read_body, fields_after}
use Rattle.model.specs.Record.{read_fields, read_record, record_of, with_rest}
use Rattle.record.specs.Kind.{fields}

-- fewer than two bytes, or a bad bit map
pub too_short : (bytes : List ℕ) → length bytes < 2 → read_record bytes ≡ none
unfolding read_record read_fields and_then
too_short [] h = refl
too_short (m ∷ []) h = refl
too_short (m ∷ kind ∷ bytes) h = absurd (omega arith)

pub bad_map : (bytes : List ℕ) → good_map (get_or bytes 0 0) ≡ false → read_record bytes ≡ none
unfolding read_record read_fields and_then
bad_map [] e = refl
bad_map (m ∷ []) e = refl
bad_map (m ∷ kind ∷ bytes) e = rw e

after_both : {A B C : Type 0} (x : Reading A) (f : A → List ℕ → Reading B) (g : B → List ℕ → Reading C)
    → and_then (and_then x f) g ≡ and_then x λ a rest. and_then (f a rest) g
unfolding and_then
after_both none f g = refl
after_both (some r) f g = refl

-- what is read after a good map and the kind: one field after the other, and then the kind's row
abbrev pub row_after : ℕ → ℕ → List ℕ → Reading Record
row_after m kind bytes =
    and_then (read_field (stands 2 m) read_byte bytes) λ p bytes₁.
    and_then (read_field (stands 4 m) read_byte bytes₁) λ c bytes₂.
    and_then (read_field (stands 8 m) read_body bytes₂) λ b bytes₃.
    with_rest (record_of (fields kind p c b)) bytes₃

one_by_one : (m kind : ℕ) (bytes : List ℕ)
    → and_then (fields_after m kind bytes) (λ f rest. with_rest (record_of f) rest) ≡ row_after m kind bytes
unfolding fields_after and_then
one_by_one m kind bytes = simp after_both

pub good_map_read : (bytes : List ℕ) → 2 ≤ length bytes → good_map (get_or bytes 0 0) ≡ true
    → read_record bytes ≡ row_after (get_or bytes 0 0) (get_or bytes 1 0) (drop 2 bytes)
unfolding read_record read_fields
good_map_read [] h e = absurd (omega arith)
good_map_read (m ∷ []) h e = absurd (omega arith)
good_map_read (m ∷ kind ∷ bytes) h e = rw e (one_by_one m kind bytes)

-- a field, and what is read after it
nothing_then : {A B : Type 0} {x : Reading A} (f : A → List ℕ → Reading B) → none ≡ x → none ≡ and_then x f
unfolding and_then
nothing_then f e = rw (← e)

field_then : {A B : Type 0} {x : Reading A} {a : A} {rest : List ℕ} (f : A → List ℕ → Reading B) → some (a, rest) ≡ x
    → f a rest ≡ and_then x f
unfolding and_then
field_then f e = rw (← e)

-- the three fields, one after the other: the first that doesn't read, or all, and then the kind's row
module _ (bytes : List ℕ) (long : 2 ≤ length bytes) {good : Bool} (tested : good ≡ good_map (get_or bytes 0 0))
    (passed : good ≡ true) where
  abbrev map : ℕ
  map = get_or bytes 0 0

  abbrev kind : ℕ
  kind = get_or bytes 1 0

  -- the bytes after the map and the kind, as a part
  abbrev after : List ℕ
  after = slice_range bytes 2 (length bytes)

  start : row_after map kind after ≡ read_record bytes
  start =
      let all : after ≡ drop 2 bytes = take_all _ (drop 2 bytes) (rw (length-drop _ _) (omega arith)) in
      rw (all, good_map_read bytes long (sym tested ∙ passed))

  pub no_process : none ≡ read_field (stands 2 map) read_byte after → none ≡ read_record bytes
  no_process e = nothing_then _ e ∙ start

  module _ {p : ℕ} {bytes₁ : List ℕ} (e₁ : some (p, bytes₁) ≡ read_field (stands 2 map) read_byte after) where
    pub no_channel : none ≡ read_field (stands 4 map) read_byte bytes₁ → none ≡ read_record bytes
    no_channel e = nothing_then _ e ∙ (field_then _ e₁ ∙ start)

    module _ {c : ℕ} {bytes₂ : List ℕ} (e₂ : some (c, bytes₂) ≡ read_field (stands 4 map) read_byte bytes₁) where
      pub no_body : none ≡ read_field (stands 8 map) read_body bytes₂ → none ≡ read_record bytes
      no_body e = nothing_then _ e ∙ (field_then _ e₂ ∙ (field_then _ e₁ ∙ start))

      module _ {b : ℕ} {bytes₃ : List ℕ} (e₃ : some (b, bytes₃) ≡ read_field (stands 8 map) read_body bytes₂) where
        all_fields : with_rest (record_of (fields kind p c b)) bytes₃ ≡ read_record bytes
        all_fields = field_then _ e₃ ∙ (field_then _ e₂ ∙ (field_then _ e₁ ∙ start))

        pub no_row : none ≡ record_of (fields kind p c b) → none ≡ read_record bytes
        unfolding with_rest
        no_row e = rw (← e) at all_fields

        pub a_row : {r : Record} → some r ≡ record_of (fields kind p c b) → some (r, bytes₃) ≡ read_record bytes
        unfolding with_rest
        a_row e = rw (← e) at all_fields

-- what the check needs before the fields
pub ruleset parsing = (too_short, bad_map)
