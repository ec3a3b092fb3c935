-- Laws of bytes in hexadecimal: one more after others, none, and all.
use Prim.Native.Nat.{ℕ, ◌+◌, ◌*◌, ◌<◌}
use mathlib.Core.Path.{◌≡◌, refl}
use mathlib.Core.List.{List, [], ◌∷◌, ◌++◌, append_assoc}
use native.Mathlib.Numerals.{add-one}
use lib.ListN.{length, get_or, take}
use lib.Seq.{take-suc, take-length}
use native.Mathlib.Omega.{arith}
use Rattle.report.specs.Appends.{Appends}
use Rattle.report.specs.TextBytes.{hex_bytes_bytes}
use Rattle.report.specs.Text.{chars}
use Rattle.report.proofs.Appending.{nothing, at_most}
use Rattle.report.specs.Hex.{hex_byte, spaced_bytes, hex_bytes}

spaced_append : (xs ys : List ℕ) → spaced_bytes (xs ++ ys) ≡ spaced_bytes xs ++ spaced_bytes ys
unfolding spaced_bytes
spaced_append [] ys = refl
spaced_append (x ∷ xs) ys = rw (spaced_append xs ys, append_assoc (chars " " ++ hex_byte x))

pub spaced_more : (first bytes : List ℕ) (i : ℕ) → i < length bytes
    → first ++ spaced_bytes (take (i + 1) bytes)
    ≡ first ++ spaced_bytes (take i bytes) ++ chars " " ++ hex_byte (get_or bytes i 0)
unfolding spaced_bytes
spaced_more first bytes i inside =
    rw (add-one i, take-suc bytes i 0 inside, spaced_append (take i bytes) (get_or bytes i 0 ∷ [])) (simp append_assoc)

-- no bytes, and a first byte and all others
pub hex_none : (bytes b : List ℕ) (at : ℕ) → length bytes ≡ 0
    → Appends (hex_bytes_bytes (length bytes)) b at (hex_bytes bytes) b at
unfolding hex_bytes
hex_none [] b at e = nothing b at
hex_none (x ∷ bytes) b at e = absurd (omega arith)

pub hex_all : {bytes others b a : List ℕ} {first k at r : ℕ} → bytes ≡ first ∷ others → k ≡ length others
    → Appends (2 + k * 3) b at (hex_byte first ++ spaced_bytes (take k others)) a r
    → Appends (hex_bytes_bytes (length bytes)) b at (hex_bytes bytes) a r
unfolding hex_bytes
hex_all {others = others} e all t = rw e (at_most (rw (all, take-length others) at t) (omega arith))
