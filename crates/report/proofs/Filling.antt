-- Laws of a list that is filled place by place: the first i of n places hold what f says. None, one more, all.
use Prim.Native.Nat.{ℕ, ◌+◌, ◌<◌, ◌≤◌}
use mathlib.Core.Path.{◌≡◌, refl}
use mathlib.Core.List.{List}
use lib.ListN.{length, set, take, length-set}
use lib.Seq.{take-suc-set}
use native.Mathlib.Omega.{arith}
use native.Mathlib.Numerals.{add-one}
use Rattle.model.specs.Notation.{tabulate}
use Rattle.model.proofs.laws.Lists.{tabulate_more}

pub record Filled (f : ℕ → ℕ) (n size : ℕ) (xs : List ℕ) (i : ℕ) : Type 0 where
  pub within : i ≤ n
  pub room : n ≤ size
  pub kept : length xs ≡ size
  pub first : take i xs ≡ tabulate i f

module _ {f : ℕ → ℕ} {n size : ℕ} {xs : List ℕ} where
  pub none_filled : n ≤ size → length xs ≡ size → Filled f n size xs 0
  unfolding tabulate
  none_filled l e = record { within = omega arith; room = l; kept = e; first = refl }

  module _ {i : ℕ} (p : Filled f n size xs i) where
    pub one_filled : {v : ℕ} → i < n → v ≡ f i → Filled f n size (set xs i v) (i + 1)
    one_filled {v} l e =
        let inside : i < length xs = omega (arith, p.kept, p.room) in
        record {
          within = omega arith;
          room = p.room;
          kept = simp length-set p.kept;
          first = rw (tabulate_more i f, add-one i, take-suc-set xs i v inside, p.first, e);
        }

    pub all_filled : n ≤ i → take n xs ≡ tabulate n f
    all_filled l = let e : n ≡ i = omega (arith, p.within) in rw e p.first
