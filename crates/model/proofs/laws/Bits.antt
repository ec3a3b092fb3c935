-- Laws of the bits of a number.
use Prim.Native.Nat.{ℕ, zero, suc, ◌<◌, ◌≤◌, ◌+◌, ◌*◌, ◌/◌, ◌%◌, ◌^◌}
use mathlib.Core.Path.{◌≡◌, sym, ap, ◌∙◌}
use mathlib.Core.Bool.{false}
use lib.Dec.{eqb}
use lib.Pow.{pow_pos, pow-add}
use borrow.Author.Tests.{eqb-false}
use native.Mathlib.Omega.{arith}
use native.Mathlib.Nat.{pow-le-pow_right, div-eq_of_lt, div-lt_iff_lt-mul, div-one, div-div-eq-div-mul}
use Rattle.model.specs.Notation.{bit_of}

-- a number of which nothing is left without its k lowest bits is below 2^k
pub below_power : (n k : ℕ) → n / 2 ^ k ≡ 0 → n < 2 ^ k
below_power n k e =
    let l : n < 1 * 2 ^ k = (div-lt_iff_lt-mul (pow_pos k)).0 (omega (arith, e)) in omega (arith, l)

-- and has no bit from k on
pub bit_beyond : (n k i : ℕ) → n < 2 ^ k → k ≤ i → bit_of n i ≡ false
unfolding bit_of
bit_beyond n k i l m =
    let low : 2 ^ k ≤ 2 ^ i = pow-le-pow_right (omega arith) m in
    let under : n < 2 ^ i = omega (arith, low) in
    rw (div-eq_of_lt under)

-- the bits of what is left without the k lowest ones
pub bits_above : (n k i : ℕ) → bit_of (n / 2 ^ k) i ≡ bit_of n (k + i)
unfolding bit_of
bits_above n k i =
    ap (λ (x : ℕ). eqb (x % 2) 1)
    (div-div-eq-div-mul n (2 ^ k) (2 ^ i) ∙ ap (λ (x : ℕ). n / x) (sym (pow-add 2 k i)))

-- a number of which no bit stands is 0; fuel: no less than it
pub no_bits : (fuel n : ℕ) → n ≤ fuel → ((i : ℕ) → bit_of n i ≡ false) → n ≡ 0
unfolding bit_of
no_bits zero n l h = omega arith
no_bits (suc fuel) n l h =
    let even : n % 2 ≡ 1 → ⊥ = rw (div-one n) at (eqb-false (n / 2 ^ 0 % 2) 1 (h 0)) in
    let half : n / 2 ≡ 0 = no_bits fuel (n / 2) (omega arith) (λ i. bits_above n 1 i ∙ h (1 + i)) in
    omega (arith, even, half)
