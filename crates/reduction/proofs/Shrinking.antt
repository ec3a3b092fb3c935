-- Laws of parts that fail: a part of the list, what a replay tells of it, and a part without a block.
use Rattle.std.proofs.Common.{◌≡◌, ℕ, suc, ◌+◌, ◌-◌, ◌<◌, ◌≤◌, Bool, true, false, List, [], ◌∷◌, map, length}
use Rattle.std.proofs.Common.{get_or, eqb}
use Rattle.std.proofs.Common.{refl, sym, ap, ◌∙◌, arith, rules}
use mathlib.Core.Option.{Option, none, some}
use borrow.Author.Tests.{eqb-true, eq-eqb, ne_eqb}
use denote.Enum.Bare.{sameb, same_true, same_false}
use Rattle.std.proofs.lemmas.List.{get_or_default}
use Rattle.model.specs.declared.Record.{Record}
use Rattle.model.specs.declared.Record.TheVariants.{Call, Recover}
use Rattle.model.specs.declared.Step.TheVariants.{Send}
use Rattle.model.specs.declared.Refusal.{Refusal}
use Rattle.model.specs.contracts.Refusal.{the_type}
use Rattle.model.specs.CallList.{call_at, Failure, first_failure}
use Rattle.model.specs.Outcome.{refusal_number}
use Rattle.model.specs.Reduction.{calls_at, Rising}
use Rattle.model.proofs.laws.Tests.{Tested, test, holds, fails, true_is_not_false, and_left, and_right, and_both}
use Rattle.model.proofs.laws.Functions.{Indices, same, other, indices}
use Rattle.model.proofs.ToldApart.{told_apart}
use Rattle.reduction.specs.declared.part.Part.{Part}
use Rattle.reduction.specs.declared.search.Search.{Search}
use Rattle.reduction.specs.Parts.{kept, part_of, Held, without_block}
use Rattle.reduction.specs.Replays.{failure_of, ends_with}
use Rattle.reduction.specs.Passes.{FailsAs, Failing}
use Rattle.reduction.proofs.Parts.{kept_holding, kept_length, held_holding, without_length, without_rising}
use Rattle.reduction.proofs.Parts.{without_last}

-- places that rise up to one below n are all below n
pub below : (n : ℕ) (xs : List ℕ) → Rising xs → get_or xs (length xs - 1) 0 < n
    → (i : ℕ) → i < length xs → get_or xs i 0 < n
below n xs rising last i l = go (indices i (length xs - 1))
  where
    go : Indices i (length xs - 1) → get_or xs i 0 < n
    go (same e) = rw e last
    go (other e) = omega (arith, last, rising i (length xs - 1) (omega (arith, e)) (omega arith))

-- the calls at such places, as the list holds them and as a part takes them
pub calls_at_lem : (list : List Record) (xs : List ℕ) → ((i : ℕ) → i < length xs → get_or xs i 0 < length list)
    → map (call_at list) xs ≡ calls_at list xs
calls_at_lem list [] h = refl
calls_at_lem list (x ∷ xs) h =
    let here : get_or list x Recover ≡ call_at list x =
    get_or_default list x Recover (Call (Send 0 0)) (h 0 (omega arith)) in
    rw (here, calls_at_lem list xs (λ i l. h (suc i) (omega arith)))

-- refusals are the same where their numbers are
pub same_number : (a b : Refusal) → sameb the_type a b ≡ eqb (refusal_number a) (refusal_number b)
same_number a b = go (test (sameb the_type a b))
  where
    go : Tested (sameb the_type a b) → sameb the_type a b ≡ eqb (refusal_number a) (refusal_number b)
    go (holds t) = t ∙ sym (eq-eqb _ _ (ap refusal_number (same_true the_type (search rules) a b t)))
    go (fails t) = t ∙ sym (ne_eqb _ _ (λ e. same_false the_type a b t (told_apart.refusals a b e)))

-- what the test of a replay says
abbrev last_one : ℕ → ℕ → Failure
last_one count n = record { place = count - 1; number = n }

test_holds : (x : Option Failure) (count n : ℕ) → ends_with x count n ≡ true → x ≡ some (last_one count n)
unfolding ends_with
test_holds none count n e = true_is_not_false e refl
test_holds (some f) count n e =
    let last : f.place + 1 ≡ count = eqb-true _ _ (and_left _ (eqb f.number n) e) in
    let place : f.place ≡ count - 1 = omega arith in
    let number : f.number ≡ n = eqb-true _ _ (and_right (eqb (f.place + 1) count) _ e) in
    rw (← place, ← number)

test_fails : (x : Option Failure) (count n : ℕ) → 0 < count → ends_with x count n ≡ false → x ≡ some (last_one count n)
    → ⊥
unfolding ends_with
test_fails x count n l e q =
    let sure : ends_with (some (last_one count n)) count n ≡ true =
    and_both (eqb (count - 1 + 1) count) (eqb n n) (eq-eqb (count - 1 + 1) count (omega arith)) (eq-eqb n n refl) in
    true_is_not_false sure (rw q at e)

-- a part without a block before its last call, and what the replay of it tells
module _ {s : Search} {part : Part} (p : Failing s part) {from to : ℕ} (h : from ≤ to) (k : to < part.count) where
  abbrev rest : List ℕ
  rest = without_block from to (kept part)

  inside : to ≤ length (kept part)
  inside = rw (kept_length p.held) (omega arith)

  rest_length : length rest ≡ part.count - (to - from)
  rest_length = without_length (kept part) from to h inside ∙ rw (kept_length p.held)

  rest_last : get_or rest (length rest - 1) 0 ≡ (failure_of s.first).place
  rest_last = without_last (kept part) from to h inside (rw (kept_length p.held) k) ∙ p.fails.last

  module _ {q : Part} (e : q ≡ part_of rest) where
    rest_kept : kept q ≡ rest
    rest_kept = rw e (kept_holding rest)

    pub fewer_held : Held q
    fewer_held = rw e (held_holding rest (rw rest_length (omega (arith, p.held.within))))

    pub fewer_count : q.count ≡ part.count - (to - from)
    fewer_count = sym (kept_length fewer_held) ∙ rw rest_kept rest_length

    module _ {t : Bool} (tested : t ≡ ends_with (first_failure s.topology (calls_at s.list.now (kept q))) q.count
        (refusal_number s.first.refusal)) where
      pub fewer_fails : t ≡ true → Failing s q
      fewer_fails y =
          let found = test_holds _ _ _ (sym tested ∙ y) in
          record {
            held = fewer_held;
            fails = record {
              rising = rw rest_kept (without_rising (kept part) from to h inside p.fails.rising);
              last = rw rest_kept rest_last;
              failure = rw (kept_length fewer_held) found;
            };
          }

      pub fewer_lost : t ≡ false → FailsAs s rest → ⊥
      fewer_lost y all =
          test_fails _ _ _ (rw fewer_count (omega arith)) (sym tested ∙ y)
          (rw (rest_kept, fewer_count) (rw rest_length at all.failure))
