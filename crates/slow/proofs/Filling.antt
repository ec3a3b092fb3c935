-- Laws of what is pushed onto a channel from a history.
use Prim.Native.Nat.{ℕ, zero, suc, ◌+◌, ◌<◌, ◌≤◌}
use mathlib.Core.Path.{◌≡◌, refl, sym, ap, ◌∙◌}
use mathlib.Core.Bool.{Bool, true, false, cond, ◌&&◌, and-false}
use mathlib.Core.List.{List, [], ◌∷◌, ◌++◌, append-nil, append_assoc}
use lib.ListN.{length, take, length-append, length-take, drop_of_length-le}
use lib.Seq.{take_all, take-append-le, drop-append-le}
use lib.Dec.{leb, ltb}
use borrow.Author.Tests.{ltb-true, ltb-false, leb-true, leb-false}
use native.Mathlib.Omega.{arith}
use native.Mathlib.Nat.{min-le_right}
use Rattle.account.specs.declared.Deed.{Deed}
use Rattle.model.specs.Channel.{entry_of}
use Rattle.model.specs.History.{is_after}
use Rattle.account.specs.Deeds.{on_channel}
use Rattle.slow.specs.Kept.{deed_at}
use native.Mathlib.Numerals.{add-one}
use Rattle.model.specs.declared.Entry.{Entry}
use Rattle.model.proofs.laws.Tests.{Tested, holds, fails, test}
use Rattle.model.proofs.laws.Functions.{Indices, same, other, indices}
use Rattle.slow.specs.declared.deeds.Past.{Past}
use Rattle.slow.specs.declared.events.Histories.{Histories}
use Rattle.slow.specs.Seen.{mark_of, mark_in, place_in, kind_of, sent_by, between}

-- the one entry, if it is one
abbrev one_if : Bool → Entry → List Entry
one_if on x = cond on (x ∷ []) []

single : (on : Bool) (x : Entry) → length (one_if on x) ≡ cond on 1 0
single true x = refl
single false x = refl

-- one more, if it is one, and if its number is from one to before another
between_more : (from to : ℕ) (xs : List Entry) (on : Bool) (x : Entry)
    → between from to (xs ++ one_if on x)
    ≡ between from to xs ++ one_if (on && (leb from (length xs) && ltb (length xs) to)) x
between_more from to xs false x = ap (between from to) (append-nil xs) ∙ sym (append-nil (between from to xs))
between_more from to xs true x = go (test (ltb (length xs) to)) (test (leb from (length xs)))
  where
    more : List Entry
    more = xs ++ (x ∷ [])

    long : length more ≡ length xs + 1
    long = length-append xs (x ∷ [])

    go : Tested (ltb (length xs) to) → Tested (leb from (length xs))
        → between from to more ≡ between from to xs ++ one_if (leb from (length xs) && ltb (length xs) to) x
    go (holds l) (holds m) =
        let below = ltb-true (length xs) to l in
        rw (take_all to more (omega (arith, long, below)), l, m, take_all to xs (omega (arith, below)))
        (drop-append-le from xs (x ∷ []) (leb-true from (length xs) m))
    go (holds l) (fails m) =
        let short = leb-false from (length xs) m in
        let all : length (take to more) ≤ from =
        omega (arith, length-take to more, min-le_right to (length more), long, short) in
        let few : length (take to xs) ≤ from = omega (arith, length-take to xs, min-le_right to (length xs), short) in
        rw (drop_of_length-le (take to more) {i = from} all, drop_of_length-le (take to xs) {i = from} few, m)
    go (fails l) t =
        rw (take-append-le to xs (x ∷ []) (ltb-false (length xs) to l), l, and-false (leb from (length xs)))
        (sym (append-nil (between from to xs)))

-- The first k places of a history: how many sends there are, what is pushed onto the channel, and that there is room.
module _ (turned : Bool) (past : Past) (b : Histories) (p c from to : ℕ) where
  abbrev sent : ℕ → List Entry
  sent k = sent_by turned past b p c k

  abbrev pushed : ℕ → List Entry
  pushed k = between from to (sent k)

  abbrev here : ℕ → Deed
  here k = deed_at past (place_in b p k)

  abbrev entry : ℕ → Entry
  entry k = entry_of (kind_of turned (is_after (mark_of (mark_in b p)) k)) (here k).body

  abbrev fits : ℕ → Bool
  fits k = on_channel 1 c (here k) && (leb from (length (sent k)) && ltb (length (sent k)) to)

  sent_more : (k : ℕ) → sent (k + 1) ≡ sent k ++ one_if (on_channel 1 c (here k)) (entry k)
  unfolding sent_by
  sent_more k = rw (add-one k)

  pushed_more : (k : ℕ) → pushed (k + 1) ≡ pushed k ++ one_if (fits k) (entry k)
  pushed_more k =
      ap (between from to) (sent_more k) ∙ between_more from to (sent k) (on_channel 1 c (here k)) (entry k)

  -- it only grows
  grows : (k n : ℕ) → k ≤ n → length (pushed k) ≤ length (pushed n)
  grows k zero l = let e : k ≡ 0 = omega arith in rw e (omega arith)
  grows k (suc n) l = go (indices k (suc n)) (λ m. grows k n m)
    where
      go : Indices k (suc n) → (k ≤ n → length (pushed k) ≤ length (pushed n))
          → length (pushed k) ≤ length (pushed (suc n))
      go (same e) ih = rw e (omega arith)
      go (other z) ih =
          let more = ap length (pushed_more n) ∙ length-append (pushed n) (one_if (fits n) (entry n)) in
          rw (← add-one n) (omega (arith, ih (omega (arith, z)), more))

  module _ (k : ℕ) where
    pub counted_more : cond (on_channel 1 c (here k)) (length (sent k) + 1) (length (sent k)) ≡ length (sent (k + 1))
    counted_more = go (on_channel 1 c (here k)) ∙ ap length (sym (sent_more k))
      where
        go : (on : Bool) → cond on (length (sent k) + 1) (length (sent k)) ≡ length (sent k ++ one_if on (entry k))
        go true = sym (length-append (sent k) (entry k ∷ []))
        go false = ap length (sym (append-nil (sent k)))

    module _ (first now : List Entry) (is : now ≡ first ++ pushed k) where
      pub filled_more : now ++ one_if (fits k) (entry k) ≡ first ++ pushed (k + 1)
      filled_more =
          rw (is, pushed_more k) (append_assoc first (pushed k) (one_if (fits k) (entry k)))

      pub room_left_lem : (n : ℕ) → k < n → length (first ++ pushed n) ≤ 8 → length now + cond (fits k) 1 0 ≤ 8
      room_left_lem n l room =
          omega (
            arith,
            room,
            grows (k + 1) n (omega arith),
            ap length filled_more,
            length-append now (one_if (fits k) (entry k)),
            single (fits k) (entry k),
            length-append first (pushed (k + 1)),
            length-append first (pushed n),
          )
