-- Laws of writes under a budget: lists of writes one after the other spend what is left, and a store keeps its length.
use Rattle.std.proofs.Common.{◌≡◌, ℕ, zero, suc, ◌-◌, ◌<◌, ◌≤◌, List, [], ◌∷◌, ◌++◌, length, take, sym, refl, ap}
use Rattle.std.proofs.Common.{◌∙◌, arith, length-append, take_all}
use native.Mathlib.Numerals.{unary_clauses}
use lib.Seq.{take-nil}
use Rattle.model.specs.Write.{Write, write, write_all}
use Rattle.model.proofs.store.Writes.{length_write_all}
use Rattle.engine.specs.Spent.{Spent}

-- what lasts for xs and then ys: xs first, and ys with what is left
lasting_append : (st : List ℕ) (b : ℕ) (xs ys : List Write)
    → write_all st (take b (xs ++ ys)) ≡ write_all (write_all st (take b xs)) (take (b - length xs) ys)
unfolding write_all
lasting_append st b [] ys = simp (unary_clauses, take-nil)
lasting_append st zero (x ∷ xs) ys = let e : 0 - length (x ∷ xs) ≡ 0 = omega arith in rw e
lasting_append st (suc b) (x ∷ xs) ys = lasting_append (write st x) b xs ys ∙ simp unary_clauses

-- no write, one write, and one list of writes after another
pub none_spent : (st : List ℕ) (b : ℕ) → Spent st b [] st b
unfolding write_all
none_spent st b = record { store = rw take-nil; left = omega arith }

pub one_spent : (st : List ℕ) (b : ℕ) (w : Write) → 0 < b → Spent st b (w ∷ []) (write st w) (b - 1)
unfolding write_all
one_spent st zero w l = absurd (omega arith)
one_spent st (suc b) w l = record { store = ap (write_all (write st w)) (sym (take-nil b)); left = refl }

module _ {st st' : List ℕ} {b b' : ℕ} {xs : List Write} (p : Spent st b xs st' b') where
  pub spent_then : {st'' : List ℕ} {b'' : ℕ} {ys : List Write} → Spent st' b' ys st'' b''
      → Spent st b (xs ++ ys) st'' b''
  spent_then {st''} {b''} {ys} q =
      record {
        store = q.store ∙ rw (p.store, p.left) (sym (lasting_append st b xs ys));
        left = omega (arith, length-append xs ys, p.left, q.left);
      }

  pub spent_length : length st' ≡ length st
  spent_length = rw p.store (length_write_all st (take b xs))

  -- a budget that lasts
  pub all_spent : length xs ≤ b → st' ≡ write_all st xs
  all_spent l = p.store ∙ ap (write_all st) (take_all b xs l)
