-- Laws of the parts of a record's bytes, each in two directions: what is written reads back (-reads), and what reads is
-- what is written (-written). The parts: the four bytes of a body, a field that is present or absent, the bit map.
use Prim.Native.Nat.{ℕ, ◌+◌, ◌*◌, ◌/◌, ◌%◌, ◌<◌, ◌≤◌}
use mathlib.Core.Path.{◌≡◌, refl, ap, ◌∙◌}
use mathlib.Core.Bool.{Bool, true, false, cond, not}
use mathlib.Core.List.{List, [], ◌∷◌, ◌++◌}
use mathlib.Core.Option.{none, some, none-ne-some, some-injective}
use lib.ListN.{length, get_or, drop, length-drop, drop_of_length-le}
use lib.Seq.{get_or-append-add, drop-cons}
use lib.Dec.{ltb, eqb}
use borrow.Author.Tests.{eqb-true, eqb-false, ltb-true, eq-eqb, lt-ltb}
use native.Mathlib.Omega.{arith}
use native.Mathlib.Numerals.{add-one}
use Rattle.model.specs.Record.{Fields, absent, bit, map_of, body_bytes, field_bytes, AreBytes, Reading, and_then}
use Rattle.model.specs.Record.{lowest_first, read_byte, read_body, nonzero, read_field, stands, good_map}
use Rattle.model.proofs.laws.Tests.{test, Tested, holds, fails, and_left, and_right, and_both}

-- two equal readings have equal parts
pub record Same {A : Type 0} (a b : A) (xs ys : List ℕ) : Type 0 where
  pub value : a ≡ b
  pub rest : xs ≡ ys

pub same : {A : Type 0} {a b : A} {xs ys : List ℕ} → ◌≡◌ {A = Reading A} (some (a, xs)) (some (b, ys)) → Same a b xs ys
same {A} {a} {b} {xs} {ys} e =
    let pair : ◌≡◌ {A = A × List ℕ} (a, xs) (b, ys) = some-injective (a, xs) (b, ys) e in
    record { value = ap (λ (r : A × List ℕ). r.0) pair; rest = ap (λ (r : A × List ℕ). r.1) pair }

-- one reading after another: the second goes on from the first, and where the whole reads, both do
module _ {A B : Type 0} where
  pub then : {x : Reading A} {a : A} {rest : List ℕ} (f : A → List ℕ → Reading B) → x ≡ some (a, rest)
      → and_then x f ≡ f a rest
  unfolding and_then
  then f e = rw e

  pub both :
      (x : Reading A) (f : A → List ℕ → Reading B) (y : B × List ℕ) →
      and_then x f ≡ some y → (a : A) × (rest : List ℕ) × (x ≡ some (a, rest)) × (f a rest ≡ some y)
  unfolding and_then
  both none f y e = absurd (none-ne-some y e)
  both (some r) f y e = (r.0, r.1, refl, e)

-- a byte, and a body's four bytes, at a place of the bytes
module _ (bytes : List ℕ) (at : ℕ) where
  pub no_byte : length bytes ≤ at → read_byte (drop at bytes) ≡ none
  unfolding read_byte
  no_byte h = rw (drop_of_length-le bytes h)

  pub a_byte : at < length bytes → read_byte (drop at bytes) ≡ some (get_or bytes at 0, drop (at + 1) bytes)
  unfolding read_byte
  a_byte h = rw (drop-cons bytes at 0 h, add-one at)

  pub no_body : length bytes < at + 4 → read_body (drop at bytes) ≡ none
  unfolding read_body
  no_body h = short (drop at bytes) (rw (length-drop at bytes) (omega arith))
    where
      short : (xs : List ℕ) → length xs < 4 → read_body xs ≡ none
      short [] l = refl
      short (a ∷ []) l = refl
      short (a ∷ b ∷ []) l = refl
      short (a ∷ b ∷ c ∷ []) l = refl
      short (a ∷ b ∷ c ∷ d ∷ xs) l = absurd (omega arith)

  pub a_body : at + 4 ≤ length bytes
      → read_body (drop at bytes)
      ≡ some (
        lowest_first (get_or bytes at 0) (get_or bytes (at + 1) 0) (get_or bytes (at + 2) 0) (get_or bytes (at + 3) 0),
        drop (at + 4) bytes,
      )
  unfolding read_body
  a_body h =
      let next : (n m : ℕ) → n < length bytes → n + 1 ≡ m → drop n bytes ≡ get_or bytes n 0 ∷ drop m bytes
      = λ n m l e. drop-cons bytes n 0 l ∙ rw (← add-one n, e) in
      rw (
        next at (at + 1) (omega arith) refl,
        next (at + 1) (at + 2) (omega arith) (omega arith),
        next (at + 2) (at + 3) (omega arith) (omega arith),
        next (at + 3) (at + 4) (omega arith) (omega arith),
      )

-- the four bytes of a body
pub body_reads : (b : ℕ) (rest : List ℕ) → b < 4294967296 → read_body (body_bytes b ++ rest) ≡ some (b, rest)
unfolding read_body body_bytes
body_reads b rest h =
    let second : b / 65536 ≡ b / 256 / 256 = omega arith in
    let third : b / 16777216 ≡ b / 65536 / 256 = omega arith in
    let last : b / 16777216 % 256 ≡ b / 16777216 = omega arith in
    ap (λ (x : ℕ). some (x, rest)) (omega arith)

lowest : (x a higher : ℕ) → a < 256 → x ≡ a + 256 * higher → x % 256 ≡ a
lowest x a higher h e = omega arith

pub body_written : (bytes : List ℕ) (x : ℕ) (rest : List ℕ) → AreBytes bytes → read_body bytes ≡ some (x, rest)
    → bytes ≡ body_bytes x ++ rest
unfolding read_body body_bytes
body_written [] x rest h e = absurd (none-ne-some (x, rest) e)
body_written (a ∷ []) x rest h e = absurd (none-ne-some (x, rest) e)
body_written (a ∷ b ∷ []) x rest h e = absurd (none-ne-some (x, rest) e)
body_written (a ∷ b ∷ c ∷ []) x rest h e = absurd (none-ne-some (x, rest) e)
body_written (a ∷ b ∷ c ∷ d ∷ bytes) x rest h e =
    let sum = (same e).value in
    rw (
      lowest x a (b + 256 * c + 65536 * d) (h 0) (omega arith),
      lowest (x / 256) b (c + 256 * d) (h 1) (omega (arith, h 0)),
      lowest (x / 65536) c d (h 2) (omega (arith, h 0, h 1)),
      lowest (x / 16777216) d 0 (h 3) (omega (arith, h 0, h 1, h 2)),
      (same e).rest,
    )

pub byte_written : (bytes : List ℕ) (x : ℕ) (rest : List ℕ) → read_byte bytes ≡ some (x, rest) → bytes ≡ x ∷ rest
unfolding read_byte
byte_written [] x rest e = absurd (none-ne-some (x, rest) e)
byte_written (y ∷ bytes) x rest e = rw ((same e).value, (same e).rest)

pub is_zero : (x : ℕ) → absent x ≡ true → x ≡ 0
unfolding absent
is_zero x e = eqb-true x 0 e

-- a field, whatever its bytes and their reader: absent where it is 0
pub field_reads :
    (x : ℕ) (read : List ℕ → Reading ℕ) (bytes rest : List ℕ) →
    read (bytes ++ rest) ≡ some (x, rest) → read_field (not (absent x)) read (field_bytes x bytes ++ rest) ≡ some
    (x, rest)
unfolding read_field field_bytes and_then nonzero
field_reads x read bytes rest h = go (test (absent x))
  where
    go : Tested (absent x) → read_field (not (absent x)) read (field_bytes x bytes ++ rest) ≡ some (x, rest)
    go (holds e) = rw (e, is_zero x e)
    go (fails e) = rw (e, h, and_then, nonzero, e)

nonzero_reads : (r : Reading ℕ) (x : ℕ) (rest : List ℕ) → and_then r nonzero ≡ some (x, rest)
    → (absent x ≡ false) × (r ≡ some (x, rest))
unfolding and_then nonzero
nonzero_reads none x rest e = absurd (none-ne-some (x, rest) e)
nonzero_reads (some r) x rest e = go (test (absent r.0))
  where
    go : Tested (absent r.0) → (absent x ≡ false) × (some r ≡ some (x, rest))
    go (holds t) = absurd (none-ne-some (x, rest) (rw t at e))
    go (fails t) =
        let all : ◌≡◌ {A = Reading ℕ} (some r) (some (x, rest)) = rw t at e in (rw (← (same all).value) t, all)

-- the field x was read by t, whether its bit stands: t is right, and the bytes are those that writing x gives, then the
-- rest
pub record Written (t : Bool) (bytes : List ℕ) (x : ℕ) (field rest : List ℕ) : Type 0 where
  pub present : t ≡ not (absent x)
  pub written : bytes ≡ field_bytes x field ++ rest

pub field_written :
    (t : Bool) (read : List ℕ → Reading ℕ) (bytes : List ℕ) (x : ℕ) (field rest : List ℕ) →
    (read bytes ≡ some (x, rest) → bytes ≡ field ++ rest) → read_field t read bytes ≡ some (x, rest) → Written t bytes x
    field rest
unfolding read_field field_bytes absent
field_written false read bytes x field rest h e =
    rw (← (same e).value, ← (same e).rest) (record { present = refl; written = refl })
field_written true read bytes x field rest h e =
    let (here, all) = nonzero_reads (read bytes) x rest e in
    record { present = rw here; written = rw here (h all) }

-- the rest of bytes are bytes
pub later_bytes : {bytes : List ℕ} (front after : List ℕ) → bytes ≡ front ++ after → AreBytes bytes → AreBytes after
later_bytes front after e h i = rw (← get_or-append-add front after i 0, ← e) (h (length front + i))

pub rest_bytes : {t : Bool} {bytes : List ℕ} {x : ℕ} {field rest : List ℕ} → Written t bytes x field rest
    → AreBytes bytes → AreBytes rest
rest_bytes {x} {field} {rest} w h = later_bytes (field_bytes x field) rest w.written h

-- a bit of the map, and its field
bit_below : (x : ℕ) → bit x < 2
unfolding bit
bit_below x = go (absent x)
  where
    go : (t : Bool) → cond t 0 1 < 2
    go true = omega arith
    go false = omega arith

bit_reads : (weight m x : ℕ) → m / weight % 2 ≡ bit x → stands weight m ≡ not (absent x)
unfolding bit stands
bit_reads weight m x e = rw e (go (absent x))
  where
    go : (t : Bool) → eqb (cond t 0 1) 1 ≡ not t
    go true = refl
    go false = refl

bit_written : (weight m x : ℕ) → stands weight m ≡ not (absent x) → m / weight % 2 ≡ bit x
unfolding bit stands
bit_written weight m x e = go (absent x) e
  where
    go : (t : Bool) → eqb (m / weight % 2) 1 ≡ not t → m / weight % 2 ≡ cond t 0 1
    go true q = omega (arith, eqb-false (m / weight % 2) 1 q)
    go false q = eqb-true (m / weight % 2) 1 q

-- the bit map m says which of f's fields are present
pub record Maps (m : ℕ) (f : Fields) : Type 0 where
  pub good : good_map m ≡ true
  pub process : stands 2 m ≡ not (absent f.process)
  pub channel : stands 4 m ≡ not (absent f.channel)
  pub body : stands 8 m ≡ not (absent f.body)

pub map_reads : (f : Fields) → Maps (map_of f) f
unfolding good_map map_of stands
map_reads f =
    let m : ℕ = map_of f in
    let p : bit f.process < 2 = bit_below f.process in
    let c : bit f.channel < 2 = bit_below f.channel in
    let b : bit f.body < 2 = bit_below f.body in
    record {
      good = and_both (stands 1 m) (ltb m 16) (eq-eqb (m / 1 % 2) 1 (omega arith)) (lt-ltb m 16 (omega arith));
      process = bit_reads 2 m f.process (omega arith);
      channel = bit_reads 4 m f.channel (omega arith);
      body = bit_reads 8 m f.body (omega arith);
    }

pub map_written : (m : ℕ) (f : Fields) → Maps m f → m ≡ map_of f
unfolding good_map map_of stands
map_written m f maps =
    let odd : m / 1 % 2 ≡ 1 = eqb-true (m / 1 % 2) 1 (and_left (stands 1 m) (ltb m 16) maps.good) in
    let below : m < 16 = ltb-true m 16 (and_right (stands 1 m) (ltb m 16) maps.good) in
    let second : m / 4 ≡ m / 2 / 2 = omega arith in
    let third : m / 8 ≡ m / 4 / 2 = omega arith in
    let last : m / 8 % 2 ≡ m / 8 = omega arith in
    omega (
      arith,
      bit_written 2 m f.process maps.process,
      bit_written 4 m f.channel maps.channel,
      bit_written 8 m f.body maps.body,
    )
