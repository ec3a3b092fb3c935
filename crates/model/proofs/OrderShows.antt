-- Two receipts of one body from two channels make different words in the two orders.
use Prim.Native.Nat.{ℕ, ◌+◌, ◌*◌, ◌%◌, ◌/◌, ◌<◌}
use mathlib.Core.Path.{◌≡◌, sym, ap, ◌∙◌}
use mathlib.Core.List.{[], ◌∷◌}
use lib.Dec.{ltb}
use borrow.Author.Tests.{ltb-true, ltb-false}
use native.Mathlib.Omega.{arith}
use Rattle.model.specs.Word.{receipt, replay, replay_by}
use Rattle.model.specs.Topology.{channel_limit}
use Rattle.model.specs.OrderShows.{OrderShows}
use Rattle.model.proofs.laws.Tests.{Tested, holds, fails, test}
use Rattle.model.proofs.laws.WordLaws.{modulus, product_mod}

-- the word after both, with one remainder
twice : (word body c d : ℕ)
    → replay word (receipt c body ∷ receipt d body ∷ [])
    ≡ (961 * (31 * (31 * word + c) + body) + (31 * d + body)) % modulus
unfolding replay_by
twice word body c d =
    let x : ℕ = 31 * (31 * word + c) + body in
    let e : 31 * (31 * (x % modulus) + d) + body ≡ 961 * (x % modulus) + (31 * d + body) = omega arith in
    ap (λ (n : ℕ). n % modulus) e ∙ product_mod 961 x (31 * d + body)

-- two numbers that differ by less than the modulus, unless they are the same
near : (x y c d : ℕ) → c < channel_limit → d < channel_limit → x + 29760 * d ≡ y + 29760 * c → x % modulus ≡ y % modulus
    → c ≡ d
near x y c d l m apart e = go (test (ltb i j)) (test (ltb j i))
  where
    i : ℕ
    i = x / modulus

    j : ℕ
    j = y / modulus

    go : Tested (ltb i j) → Tested (ltb j i) → c ≡ d
    go (holds a) b = absurd (omega (arith, ltb-true i j a))
    go (fails a) (holds b) = absurd (omega (arith, ltb-true j i b))
    go (fails a) (fails b) = omega (arith, ltb-false i j a, ltb-false j i b)

pub order_shows : OrderShows
order_shows word body c d l m e =
    near (both c d) (both d c) c d l m (omega arith) (sym (twice word body c d) ∙ e ∙ twice word body d c)
  where
    both : ℕ → ℕ → ℕ
    both a b = 961 * (31 * (31 * word + a) + body) + (31 * b + body)
