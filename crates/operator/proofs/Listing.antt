-- Laws of the list that bytes hold: the reading ends with the bytes, breaks off, or goes on after a call; and what is
-- listed meanwhile.
use Rattle.std.proofs.Common.{◌≡◌, ℕ, ◌+◌, ◌≤◌, ◌<◌, Bool, true, false, List, [], ◌∷◌, ◌++◌, length, take, leb}
use Rattle.std.proofs.Common.{◌==◌, refl}
use Rattle.std.proofs.Common.{sym, ap, ◌∙◌, append_assoc, append-nil, arith, length-take}
use Rattle.std.proofs.lemmas.Bool.Decides.{nat_tests}
use Rattle.std.proofs.lemmas.List.{take_all, take-append-le}
use Rattle.std.specs.Prelude.{Result, Ok, Err}
use mathlib.Core.Option.{none, some}
use borrow.Author.Tests.{leb-true, leb-false}
use Rattle.model.proofs.laws.Tests.{Tested, test, holds, fails}
use Rattle.model.specs.declared.Record.{Record}
use Rattle.model.specs.declared.Refusal.{Refusal}
use Rattle.model.specs.declared.Refusal.TheVariants.{Malformed}
use Rattle.model.specs.Outcome.{refusal_number, refusal_of}
use Rattle.model.specs.Record.{AreBytes, and_then, read_record}
use Rattle.model.specs.Program.{Request, full, full_budget, Readings, read_budget, read_request, reading_then, read_all}
use Rattle.model.specs.CallList.{list_limit}
use Rattle.model.proofs.Readings.{After, request_after, fewer, bytes_after, fuel}
use Rattle.operator.specs.declared.list.ListRead.{ListRead}
use Rattle.operator.specs.Lists.{read_calls, calls_in, broken_off, held, end_refusal, ReadsList}

-- what a test of a slice's length says
pub is_empty : {A : Type 0} (xs : List A) → true ≡ (length xs == 0) → length xs ≤ 0
is_empty xs e = grind (arith, nat_tests)

pub not_empty : {A : Type 0} (xs : List A) → false ≡ (length xs == 0) → 0 < length xs
not_empty xs e = grind (arith, nat_tests)

-- a request of `head`'s is a record with full current
abbrev request : Record → Request
request r = record { content = r; budget = full_budget }

module _ (bytes : List ℕ) where
  pub no_request : read_record bytes ≡ none → read_request full bytes ≡ none
  unfolding read_request read_budget and_then
  no_request e = rw e

  pub a_request : (r : Record) (after : List ℕ) → read_record bytes ≡ some (r, after)
      → read_request full bytes ≡ some (request r, after)
  unfolding read_request read_budget and_then
  a_request r after e = rw e

-- how the reading goes on
ended : (bytes : List ℕ) → length bytes ≤ 0 → read_calls bytes ≡ record { requests = []; broken = false }
unfolding read_all
ended [] l = refl
ended (b ∷ bytes) l = absurd (omega arith)

broken : (bytes : List ℕ) → 0 < length bytes → read_record bytes ≡ none
    → read_calls bytes ≡ record { requests = []; broken = true }
unfolding read_all reading_then
broken [] l e = absurd (omega arith)
broken (b ∷ bytes) l e = rw (no_request (b ∷ bytes) e)

pub after_call : (bytes : List ℕ) → AreBytes bytes → (r : Record) (after : List ℕ)
    → read_record bytes ≡ some (r, after) → After bytes after
after_call bytes h r after e = request_after full bytes h (request r) after (a_request bytes r after e)

more : (bytes : List ℕ) → AreBytes bytes → (r : Record) (after : List ℕ) → read_record bytes ≡ some (r, after)
    → read_calls bytes
    ≡ record { requests = request r ∷ (read_calls after).requests; broken = broken_off after }
unfolding read_all reading_then
more [] h r after e = absurd (omega (arith, fewer (after_call [] h r after e)))
more (b ∷ bytes) h r after e =
    let a = after_call (b ∷ bytes) h r after e in
    rw (
      a_request (b ∷ bytes) r after e,
      reading_then,
      fuel full (length bytes) (length after) after (bytes_after a h) (omega (arith, fewer a)) (omega arith),
    )

-- the first n of the first n of some and of others are the first n of both
take_both : (n : ℕ) (xs ys : List Record) → take n (take n xs ++ ys) ≡ take n (xs ++ ys)
take_both n xs ys = go (test (leb (length xs) n))
  where
    go : Tested (leb (length xs) n) → take n (take n xs ++ ys) ≡ take n (xs ++ ys)
    go (holds t) = rw (take_all n xs (leb-true _ _ t))
    go (fails t) =
        let long : n < length xs = leb-false (length xs) n t in
        take-append-le n (take n xs) ys (rw length-take (omega arith))
        ∙ (take_all n (take n xs) (rw length-take (omega arith)) ∙ sym (take-append-le n xs ys (omega arith)))

-- how a reading ends: with 7, or with all of the bytes
pub breaks_off : (broken : Bool) {end : Result (Unit {0}) Refusal} (r : Refusal) → end ≡ Err r
    → refusal_of end ≡ end_refusal broken → (refusal_number r ≡ 7) × (broken ≡ true)
unfolding refusal_of
breaks_off true r e p = let same = rw e at p in (cc, refl)
breaks_off false r e p = absurd (let same = rw e at p in let z : ◌≡◌ {A = ℕ} 0 1 = cc in omega arith)

pub goes_on : (broken : Bool) {end : Result (Unit {0}) Refusal} {x : Unit {0}} → end ≡ Ok x
    → refusal_of end ≡ end_refusal broken → broken ≡ false
unfolding refusal_of
goes_on false e p = refl
goes_on true e p = absurd (let same = rw e at p in let z : ◌≡◌ {A = ℕ} 0 1 = cc in omega arith)

-- while the bytes are read: what is done, and what is left
pub record Listing (all : List ℕ) (list : ListRead) (left : List ℕ) : Type 0 where
  pub done : List Record
  pub split : calls_in all ≡ done ++ calls_in left
  pub broken : broken_off all ≡ broken_off left
  pub within : list.count ≤ list_limit + 1
  pub calls : held list ≡ take (list_limit + 1) done
  pub end : list.end ≡ Ok tt
  pub bytes : AreBytes left

pub list_starts : {bytes : List ℕ} {calls : List Record} → AreBytes bytes
    → Listing bytes (record { calls = calls; count = 0; end = Ok tt }) bytes
list_starts h =
    record {
      done = [];
      split = refl;
      broken = refl;
      within = omega arith;
      calls = refl;
      end = refl;
      bytes = h;
    }

module _ {all : List ℕ} {list : ListRead} {left : List ℕ} (p : Listing all list left) where
  -- with nothing more to read, the list is whole
  whole : (b : Bool) → read_calls left ≡ record { requests = []; broken = b } → (end : Result (Unit {0}) Refusal)
      → refusal_of end ≡ end_refusal b → ReadsList all (record { calls = list.calls; count = list.count; end = end })
  whole b e end r =
      let listing : calls_in all ≡ p.done = p.split ∙ rw e (append-nil p.done) in
      let off : broken_off all ≡ b = p.broken ∙ ap (λ (r : Readings). r.broken) e in
      record { end = rw off r; within = p.within; calls = rw listing p.calls }

  pub list_ends : length left ≤ 0 → ReadsList all list
  unfolding refusal_of
  list_ends l =
      let read = whole false (ended left l) (Ok tt) refl in
      record { end = rw p.end read.end; within = read.within; calls = read.calls }

  pub list_breaks : 0 < length left → read_record left ≡ none
      → ReadsList all (record { calls = list.calls; count = list.count; end = Err Malformed })
  unfolding refusal_of
  list_breaks l e = whole true (broken left l e) (Err Malformed) refl

  pub list_goes_on : {r : ListRead} (call : Record) (after : List ℕ) → read_record left ≡ some (call, after)
      → held r ≡ take (list_limit + 1) (held list ++ (call ∷ [])) → r.count ≤ list_limit + 1 → r.end ≡ list.end
      → Listing all r after
  list_goes_on call after e calls within end =
      let next = more left p.bytes call after e in
      record {
        done = p.done ++ (call ∷ []);
        split = p.split ∙ rw next (sym (append_assoc p.done (call ∷ []) (calls_in after)));
        broken = p.broken ∙ ap (λ (r : Readings). r.broken) next;
        within = within;
        calls = calls ∙ rw p.calls (take_both (list_limit + 1) p.done (call ∷ []));
        end = end ∙ p.end;
        bytes = bytes_after (after_call left p.bytes call after e) p.bytes;
      }

  -- and what is left gets shorter
  pub list_shorter : (call : Record) (after : List ℕ) → read_record left ≡ some (call, after)
      → length after < length left
  list_shorter call after e = omega (arith, fewer (after_call left p.bytes call after e))
