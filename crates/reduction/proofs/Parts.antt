-- Laws of parts: an array that is filled place by place, and a list without a block of its places.
use Rattle.std.proofs.Common.{◌≡◌, ℕ, suc, ◌+◌, ◌-◌, ◌<◌, ◌≤◌, List, [], ◌∷◌, ◌++◌, length, get_or, set}
use Rattle.std.proofs.Common.{take, drop}
use Rattle.std.proofs.Common.{replicate, ltb, refl, sym, ap, ◌∙◌, append_assoc, add-one, arith}
use Rattle.std.proofs.Common.{length-append, length-take, length-drop}
use Rattle.std.proofs.lemmas.List.{take_more}
use lib.ListN.{length-map, get_or-append, get_or-map, get_or-eq_default}
use lib.Seq.{take_at, get_or-take, get_or-drop, get_or-append-add, length-take-le, set-append_seam}
use borrow.Author.Tests.{le-ltb, ltb-true, ltb-false}
use Rattle.model.specs.declared.Record.{Record}
use Rattle.model.specs.declared.Record.TheVariants.{Recover}
use Rattle.model.specs.Notation.{tabulate}
use Rattle.model.specs.CallList.{list_limit}
use Rattle.model.specs.Reduction.{Rising, calls_at}
use Rattle.model.proofs.laws.Tests.{Tested, test, holds, fails}
use Rattle.model.proofs.laws.Lists.{tabulate_length, tabulate_at}
use Rattle.model.proofs.laws.Functions.{seen_replicate, get_d_within}
use Rattle.reduction.specs.declared.part.Part.{Part}
use Rattle.reduction.specs.Parts.{kept, padded, part_of, Held, without_block, past}

-- the first n places of a list
abbrev pub numbers : ℕ → List ℕ
numbers n = tabulate n (λ i. i)

pub numbers_length : (n : ℕ) → length (numbers n) ≡ n
numbers_length n = tabulate_length n (λ i. i)

pub numbers_at : (n i : ℕ) → i < n → get_or (numbers n) i 0 ≡ i
numbers_at n i l = tabulate_at n (λ i. i) i 0 l

-- an array that begins with these numbers has them, and 0 past them
pub padded_at : (xs : List ℕ) (i : ℕ) → get_or (padded xs) i 0 ≡ get_or xs i 0
padded_at xs i = go (test (ltb i (length xs)))
  where
    go : Tested (ltb i (length xs)) → get_or (padded xs) i 0 ≡ get_or xs i 0
    go (holds t) = get_or-append xs _ 0 i (ltb-true _ _ t)
    go (fails t) =
        let past_end : i ≡ length xs + (i - length xs) = omega (arith, ltb-false i (length xs) t) in
        ap (λ (m : ℕ). get_or (padded xs) m 0) past_end
        ∙ get_or-append-add xs (replicate (list_limit - length xs) 0) (i - length xs) 0
        ∙ ap (λ (f : ℕ → ℕ). f (i - length xs)) (seen_replicate (list_limit - length xs) 0)
        ∙ sym (get_or-eq_default xs 0 {n = i} (ltb-false i (length xs) t))

-- an array that begins with these numbers, with one more written after them
pub one_padded : (xs : List ℕ) (i v : ℕ) → length xs ≡ i → i < list_limit
    → set (padded xs) i v ≡ padded (xs ++ (v ∷ []))
one_padded xs i v e l =
    let more : list_limit - length xs ≡ suc (list_limit - (length xs + 1)) = omega (arith, e) in
    rw (← e, more, length-append xs (v ∷ []), append_assoc xs (v ∷ []))
    (set-append_seam xs 0 (replicate (list_limit - (length xs + 1)) 0) v)

-- one more of the numbers, or of another list's places, written; and all of them
pub numbers_more : (i : ℕ) → i < list_limit → set (padded (numbers i)) i i ≡ padded (numbers (i + 1))
unfolding tabulate
numbers_more i l = rw add-one (one_padded (numbers i) i i (numbers_length i) l)

pub places_more : (xs : List ℕ) (i : ℕ) → i < length xs → length xs ≤ list_limit
    → set (padded (take i xs)) i (get_or xs i 0) ≡ padded (take (i + 1) xs)
places_more xs i l few =
    rw (take_more xs i 0 l) (one_padded (take i xs) i (get_or xs i 0) (length-take-le i xs (omega arith)) (omega arith))

pub places_all : (xs : List ℕ) {places : List ℕ} {count : ℕ} → places ≡ padded xs → count ≡ length xs
    → record { places = places; count = count } ≡ part_of xs
unfolding part_of
places_all xs e n = rw (e, n)

-- the places that a held part keeps
pub kept_holding : (xs : List ℕ) → kept (part_of xs) ≡ xs
unfolding part_of
kept_holding xs = take_at xs (replicate (list_limit - length xs) 0) (length xs) refl

pub held_holding : (xs : List ℕ) → length xs ≤ list_limit → Held (part_of xs)
unfolding part_of
held_holding xs l = record { within = l; whole = ap part_of (sym (kept_holding xs)) }

-- how many they are, and what stands at one of them
module _ {part : Part} (h : Held part) where
  pub kept_length : length (kept part) ≡ part.count
  unfolding part_of
  kept_length = sym (ap (λ (p : Part). p.count) h.whole)

  pub kept_at : (i : ℕ) → i < part.count → get_or (kept part) i 0 ≡ get_or part.places i 0
  kept_at i l = get_or-take part.count part.places i 0 l

  -- how many calls it has, and the i-th of them, as the code finds it
  pub calls_length : (calls : List Record) → length (calls_at calls (kept part)) ≡ part.count
  calls_length calls = simp length-map kept_length

  pub call_found : (calls : List Record) (i : ℕ) → i < part.count
      → get_or (calls_at calls (kept part)) i Recover ≡ get_or calls (get_or part.places i 0) Recover
  call_found calls i l =
      get_d_within (calls_at calls (kept part)) i Recover (get_or calls 0 Recover) (rw calls_length l)
      ∙ get_or-map (λ k. get_or calls k Recover) (kept part) i 0 ∙ ap (λ k. get_or calls k Recover) (kept_at i l)

-- past a gap, places are within the list, and rise
pub past_within : (from gap n i : ℕ) → i < n - gap → past from gap i < n
past_within from gap n i l = go (test (ltb i from))
  where
    go : Tested (ltb i from) → past from gap i < n
    go (holds a) = rw a (omega arith)
    go (fails a) = rw a (omega arith)

past_rises : (from gap i j : ℕ) → i < j → past from gap i < past from gap j
past_rises from gap i j l = go (test (ltb i from)) (test (ltb j from))
  where
    go : Tested (ltb i from) → Tested (ltb j from) → past from gap i < past from gap j
    go (holds a) (holds b) = rw (a, b) l
    go (holds a) (fails b) = rw (a, b) (omega arith)
    go (fails a) (holds b) = absurd (omega (arith, ltb-false i from a, ltb-true j from b))
    go (fails a) (fails b) = rw (a, b) (omega arith)

-- a list without a block
module _ (xs : List ℕ) (from to : ℕ) (h : from ≤ to) (k : to ≤ length xs) where
  pub without_length : length (without_block from to xs) ≡ length xs - (to - from)
  without_length =
      length-append (take from xs) (drop to xs) ∙ rw (length-take, length-drop) (omega arith)

  pub without_at : (i : ℕ) → get_or (without_block from to xs) i 0 ≡ get_or xs (past from (to - from) i) 0
  without_at i = go (test (ltb i from))
    where
      go : Tested (ltb i from) → get_or (without_block from to xs) i 0 ≡ get_or xs (past from (to - from) i) 0
      go (holds e) =
          let l : i < from = ltb-true i from e in
          rw e
          (get_or-append (take from xs) (drop to xs) 0 i (rw (length-take-le from xs (omega arith)) l)
          ∙ get_or-take from xs i 0 l)
      go (fails e) =
          let l : from ≤ i = ltb-false i from e in
          let first : length (take from xs) ≡ from = length-take-le from xs (omega arith) in
          let here : i ≡ length (take from xs) + (i - from) = omega (arith, first) in
          let there : to + (i - from) ≡ i + (to - from) = omega arith in
          rw e
          (ap (λ (m : ℕ). get_or (without_block from to xs) m 0) here
          ∙ get_or-append-add (take from xs) (drop to xs) (i - from) 0 ∙ get_or-drop to xs (i - from) 0
          ∙ ap (λ (m : ℕ). get_or xs m 0) there)

  -- the places still rise, and the last is the same
  pub without_rising : Rising xs → Rising (without_block from to xs)
  without_rising rising i j l b =
      rw (without_at i, without_at j)
      (rising (past from (to - from) i) (past from (to - from) j) (past_rises from (to - from) i j l)
      (past_within from (to - from) (length xs) j (rw without_length at b)))

  pub without_last : to < length xs
      → get_or (without_block from to xs) (length (without_block from to xs) - 1) 0 ≡ get_or xs (length xs - 1) 0
  without_last l =
      let n : ℕ = length xs - (to - from) - 1 in
      let here : length xs - (to - from) - 1 + (to - from) ≡ length xs - 1 = omega arith in
      rw without_length (without_at n ∙ rw (le-ltb n from (omega arith), here))
