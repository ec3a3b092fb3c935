-- Laws of appending to a buffer, also where it ends on the way: nothing, one text and then another, the buffer's
-- length, and how long a text can be.
use Prim.Native.Nat.{ℕ, ◌+◌, ◌-◌, ◌≤◌, ◌<◌, min}
use mathlib.Core.Path.{◌≡◌, sym, ap, ◌∙◌}
use mathlib.Core.List.{List, [], ◌++◌, append_assoc, append-nil}
use native.Mathlib.Nat.{add_assoc, add-zero}
use native.Mathlib.Omega.{arith}
use lib.ListN.{length, take, drop, length-append}
use lib.Seq.{paste, paste-zero, take-paste, drop-paste, length-paste, drop-drop}
use lib.Seq.{take-length, take-append-le, take-append-add}
use lib.Dec.{leb}
use borrow.Rule.Slice.PartMut.{put_mid, Post-is}
use borrow.Author.Tests.{leb-true, leb-false}
use Rattle.model.proofs.laws.Tests.{Tested, test, holds, fails}
use Rattle.report.specs.Appends.{fitting, Appends}

-- a position past the end, or not
data Position (b : List ℕ) (at : ℕ) : Type 0 where
  inside : at ≤ length b → Position b at
  past : length b < at → Position b at

position : (b : List ℕ) (at : ℕ) → Position b at
position b at = go (test (leb at (length b)))
  where
    go : Tested (leb at (length b)) → Position b at
    go (holds e) = inside (leb-true at (length b) e)
    go (fails e) = past (leb-false at (length b) e)

paste_length : (b : List ℕ) (at : ℕ) (xs : List ℕ) (n : ℕ) → n ≤ length b - at → n ≤ length xs
    → length (paste b at xs n) ≡ length b
paste_length b at xs n hb hx = go (position b at)
  where
    go : Position b at → length (paste b at xs n) ≡ length b
    go (inside l) = length-paste b at xs n (omega arith) hx
    go (past l) = let e : n ≡ 0 = omega arith in rw e (ap length (sym (paste-zero b at xs)))

-- a text of which so much fits; one that is copied as far as it fits, and one that begins past the end
fitted : {b : List ℕ} {at : ℕ} {text a : List ℕ} (n : ℕ) → fitting b at text ≡ n → a ≡ paste b at text n
    → Appends (length text) b at text a (at + n)
fitted n e h = record { short = omega arith; buffer = rw e h; next = rw e }

pub copied : (b : List ℕ) (at : ℕ) (text part : List ℕ) (n : ℕ) → at ≤ length b → n ≡ min (length text) (length b - at)
    → part ≡ take n text → Appends (length text) b at text (put_mid at (at + n - at) b part) (at + n)
unfolding fitting
copied b at text part n l e h = fitted n (omega (arith, e))
    (rw (h, Post-is at (at + n) b (omega arith)) (sym (append_assoc (take at b) (take n text) (drop (at + n) b))))

pub past_end : (b : List ℕ) (at : ℕ) (text : List ℕ) → length b ≤ at → Appends (length text) b at text b at
unfolding fitting
past_end b at text l = rw add-zero at (fitted {b = b} {at = at} {text = text} 0 (omega arith) (paste-zero b at text))

module _ {most : ℕ} {b a text : List ℕ} {at r : ℕ} (p : Appends most b at text a r) where
  pub appended_length : length a ≡ length b
  unfolding fitting
  appended_length = rw p.buffer (paste_length b at text (fitting b at text) (omega arith) (omega arith))

  -- a text that is known to have at most n bytes
  pub of_length : {n : ℕ} → length text ≤ n → Appends n b at text a r
  of_length l = record { short = l; buffer = p.buffer; next = p.next }

  pub at_most : {n : ℕ} → most ≤ n → Appends n b at text a r
  at_most l = of_length (omega (arith, p.short))

pub nothing : (b : List ℕ) (at : ℕ) → Appends 0 b at [] b at
unfolding fitting
nothing b at = rw add-zero at (fitted {b = b} {at = at} {text = []} 0 (omega arith) (paste-zero b at []))

-- the first n of a text and the first k of the next: the first n + k of both, if the first n are all or k is 0
take_whole : (xs ys : List ℕ) (n k : ℕ) → n ≡ length xs → take (n + k) (xs ++ ys) ≡ take n xs ++ take k ys
take_whole xs ys n k e = rw (e, take-append-add xs ys k, take-length xs)

take_part : (xs ys : List ℕ) (n k : ℕ) → n ≤ length xs → k ≡ 0 → take (n + k) (xs ++ ys) ≡ take n xs ++ take k ys
take_part xs ys n k l e = rw (e, add-zero n, take-append-le n xs ys l, append-nil (take n xs))

-- a paste of the first n of xs, and of the first k of ys right after it
module _ (b : List ℕ) (at : ℕ) (m : List ℕ) (r : ℕ) (xs ys : List ℕ) (n k f : ℕ) (em : m ≡ paste b at xs n) where
  pasted : r ≡ at + n → f ≡ n + k → at ≤ length b → n ≤ length xs → take (n + k) (xs ++ ys) ≡ take n xs ++ take k ys
      → paste m r ys k ≡ paste b at (xs ++ ys) f
  pasted er ef hb hx et =
      rw (
        em,
        er,
        ef,
        et,
        take-paste b at xs n hb hx,
        ← drop-drop k (at + n) (paste b at xs n),
        drop-paste b at xs n hb hx,
        drop-drop k (at + n) b,
        add_assoc at n k,
        append_assoc (take at b) (take n xs) (take k ys),
      )

  -- where nothing fits
  pasted_none : n ≡ 0 → k ≡ 0 → f ≡ 0 → paste m r ys k ≡ paste b at (xs ++ ys) f
  pasted_none en ek ef =
      let kept : m ≡ b = em ∙ rw en (sym (paste-zero b at xs)) in
      rw (ek, ef) (sym (paste-zero m r ys) ∙ kept ∙ paste-zero b at (xs ++ ys))

-- what fits of two texts: what fits of the first, and then of the second
module _ (b : List ℕ) (at : ℕ) (xs ys m : List ℕ) (r : ℕ) (same : length m ≡ length b)
    (here : r ≡ at + fitting b at xs) where
  abbrev first : ℕ
  first = fitting b at xs

  abbrev second : ℕ
  second = fitting m r ys

  abbrev whole : ℕ
  whole = fitting b at (xs ++ ys)

  fitting_both : whole ≡ first + second
  unfolding fitting
  fitting_both = omega (arith, length-append xs ys)

  take_both : take (first + second) (xs ++ ys) ≡ take first xs ++ take second ys
  unfolding fitting
  take_both = go (test (leb (length xs) (length b - at)))
    where
      go : Tested (leb (length xs) (length b - at))
          → take (first + second) (xs ++ ys) ≡ take first xs ++ take second ys
      go (holds e) = take_whole xs ys first second (omega (arith, leb-true))
      go (fails e) = take_part xs ys first second (omega arith) (omega (arith, leb-false))

  paste_both : m ≡ paste b at xs first → paste m r ys second ≡ paste b at (xs ++ ys) whole
  unfolding fitting
  paste_both e = go (position b at)
    where
      go : Position b at → paste m r ys second ≡ paste b at (xs ++ ys) whole
      go (inside l) = pasted b at m r xs ys first second whole e here fitting_both l (omega arith) take_both
      go (past l) = pasted_none b at m r xs ys first second whole e (omega arith) (omega arith) (omega arith)

-- one text, and right after it another
infixl 20 ◌then◌
pub ◌then◌ : {k l : ℕ} {b m a : List ℕ} {at r s : ℕ} {xs ys : List ℕ} → Appends k b at xs m r → Appends l m r ys a s
    → Appends (k + l) b at (xs ++ ys) a s
◌then◌ {b} {m} {a} {at} {r} {s} {xs} {ys} p q =
    let same : length m ≡ length b = appended_length p in
    record {
      short = simp length-append (omega (arith, p.short, q.short));
      buffer = q.buffer ∙ paste_both b at xs ys m r same p.next p.buffer;
      next = omega (arith, p.next, q.next, fitting_both b at xs ys m r same p.next);
    }
