-- Laws of a pass over a part: how it starts, goes on and ends, and that a pass over single calls which leaves none out
-- shows that the part is a smallest one.
use Rattle.std.proofs.Common.{◌≡◌, ℕ, ◌+◌, ◌-◌, ◌<◌, ◌≤◌, ◌⊎◌, List, [], ◌∷◌, length, get_or, ltb, leb, sym, ap, ◌∙◌}
use Rattle.std.proofs.Common.{inl, inr, arith}
use mathlib.Core.Option.{some-ne-none}
use borrow.Author.Tests.{lt-ltb, ltb-true, ltb-false, leb-true, leb-false}
use Rattle.model.specs.declared.Topology.{Topology}
use Rattle.model.specs.declared.Record.{Record}
use Rattle.model.specs.Run.{trace}
use Rattle.model.specs.CallList.{Failure, replies, first_from, first_failure}
use Rattle.model.specs.Reduction.{Fails, left_out}
use Rattle.model.proofs.laws.Tests.{Tested, test, holds, fails}
use Rattle.reduction.specs.declared.part.Part.{Part}
use Rattle.reduction.specs.declared.search.Search.{Search}
use Rattle.reduction.specs.Parts.{kept, without_block}
use Rattle.reduction.specs.Replays.{failure_of}
use Rattle.reduction.specs.Passes.{FailsAs, Failing, LostFrom, Tried, Passed, Found}
use Rattle.reduction.proofs.Parts.{kept_length, without_length, without_at}

-- a part that fails has a call
pub some_call : {T : Topology} {calls : List Record} {f : Failure} {part : List ℕ} → Fails T calls f part
    → 0 < length part
unfolding first_failure replies trace first_from
some_call {part = []} p = absurd (some-ne-none _ (sym p.failure))
some_call {part = x ∷ xs} p = omega arith

module _ {s : Search} where
  module _ {part : Part} (p : Failing s part) where
    pub part_count : 0 < part.count
    part_count = rw (← kept_length p.held) (some_call p.fails)

    -- without its last call a part doesn't end as it must
    lost_last : (i : ℕ) → i + 1 ≡ part.count → FailsAs s (left_out i (kept part)) → ⊥
    lost_last i e q =
        let xs : List ℕ = kept part in
        let whole : length xs ≡ i + 1 = kept_length p.held ∙ sym e in
        let fewer : length (left_out i xs) ≡ i =
        without_length xs i (i + 1) (omega arith) (omega (arith, whole)) ∙ omega (arith, whole) in
        let some_left : 0 < i = rw fewer at (some_call q) in
        let before : get_or (left_out i xs) (i - 1) 0 ≡ get_or xs (i - 1) 0 =
        without_at xs i (i + 1) (omega arith) (omega (arith, whole)) (i - 1) ∙ rw (lt-ltb (i - 1) i (omega arith)) in
        let there : get_or xs (i - 1) 0 ≡ (failure_of s.first).place =
        sym before ∙ (ap (λ (n : ℕ). get_or (left_out i xs) (n - 1) 0) (sym fewer) ∙ q.last) in
        let here : get_or xs i 0 ≡ (failure_of s.first).place =
        ap (λ (n : ℕ). get_or xs n 0) (omega (arith, whole)) ∙ p.fails.last in
        omega (arith, p.fails.rising (i - 1) i (omega arith) (omega (arith, whole)), there, here)

    pub found : LostFrom s part 0 → Found s part
    found lost =
        record {
          held = p.held;
          smallest = record { fails = p.fails; lost = λ i l q. go i l q (test (ltb (i + 1) part.count)) };
        }
      where
        go : (i : ℕ) → i < length (kept part) → FailsAs s (left_out i (kept part)) → Tested (ltb (i + 1) part.count)
            → ⊥
        go i l q (holds t) = lost i (omega arith) (ltb-true (i + 1) part.count t) q
        go i l q (fails t) =
            lost_last i (omega (arith, kept_length p.held, ltb-false (i + 1) part.count t)) q

-- in a pass over blocks of this size: from the place to on, the blocks were tried
pub record Passing (s : Search) (whole : Part) (size : ℕ) (part : Part) (to : ℕ) : Type 0 where
  pub failing : Failing s part
  pub before : to < part.count
  pub fewer : part.count ≤ whole.count
  pub lost : size ≡ 1 → part.count ≡ whole.count → LostFrom s part to

module _ {s : Search} {whole : Part} {size : ℕ} where
  pub pass_starts : Failing s whole → Passing s whole size whole (whole.count - 1)
  pass_starts p =
      record {
        failing = p;
        before = omega (arith, part_count p);
        fewer = omega arith;
        lost = λ one all i l k q. absurd (omega arith);
      }

  module _ {part : Part} {to : ℕ} (p : Passing s whole size part to) where
    pub pass_ends : to ≤ 0 → Passed s whole size part
    pass_ends e =
        record {
          failing = p.failing;
          fewer = p.fewer;
          lost = λ one all i l k q. p.lost one all i (omega arith) k q;
        }

    pub pass_goes_on : {r : Part} → 0 < to → 1 ≤ size → Tried s part (to - size) to r
        → Passing s whole size r (to - size)
    pass_goes_on {r} l o t = go t.either
      where
        go : (r.count ≡ part.count - (to - (to - size)))
            ⊎ ((r ≡ part) × (FailsAs s (without_block (to - size) to (kept part)) → ⊥))
            → Passing s whole size r (to - size)
        go (inl e) =
            record {
              failing = t.failing;
              before = omega (arith, p.before);
              fewer = omega (arith, p.before, p.fewer);
              lost = λ one all i h k q. absurd (omega (arith, p.before, p.fewer));
            }
        go (inr (e, loses)) =
            rw e
            (record {
              failing = p.failing;
              before = omega (arith, p.before);
              fewer = p.fewer;
              lost = λ one all i h k q. here one all i h k q (test (leb to i));
            })
          where
            here : size ≡ 1 → part.count ≡ whole.count → (i : ℕ) → to - size ≤ i → i + 1 < part.count
                → FailsAs s (left_out i (kept part)) → Tested (leb to i) → ⊥
            here one all i h k q (holds b) = p.lost one all i (leb-true to i b) k q
            here one all i h k q (fails b) =
                let at : i ≡ to - size = omega (arith, leb-false to i b) in
                let end : i + 1 ≡ to = omega (arith, leb-false to i b) in
                loses (rw at at (rw end at q))
