-- Laws of the histories: one more event at the end, what stands before a mark, and where the n-th send on a channel
-- stands.
use Prim.Native.Nat.{ℕ, zero, suc, ◌<◌, ◌≤◌, zero-le}
use mathlib.Core.Path.{◌≡◌, refl, sym, ap, ◌∙◌}
use mathlib.Core.Bool.{Bool, true, false, cond}
use mathlib.Core.List.{List, [], ◌∷◌, ◌++◌, append-nil}
use mathlib.Core.Option.{Option, none, some}
use lib.ListN.{length, take}
use lib.Seq.{take-length}
use borrow.Author.Tests.{eq-eqb, ne_eqb}
use native.Mathlib.Omega.{arith}
use Rattle.model.specs.Word.{receipt, enter, replay}
use Rattle.model.specs.History.{Event, Direction, sent, received, is_on, same_direction, bodies_on, receipts_of}
use Rattle.model.specs.History.{place_of_send}
use Rattle.model.proofs.laws.WordLaws.{modulus, replay_snoc, word_bounded}
use Rattle.model.proofs.laws.Tests.{Tested, holds, fails, test}

-- the word that the receives of a history make from 0
unfoldable pub word_of : List Event → ℕ
word_of es = replay 0 (receipts_of es)

pub history_bounded : (es : List Event) → word_of es < modulus
unfolding word_of
history_bounded es = word_bounded 0 (receipts_of es) (omega arith)

-- the part of a history before its mark of the round; all of it where there is none
unfoldable pub before : Option ℕ → List Event → List Event
before none es = es
before (some m) es = take m es

-- a mark within a history of this length; whether there is one
pub data Marked (n : ℕ) : Bool → Option ℕ → Type 0 where
  unmarked : Marked n false none
  marked : {m : ℕ} → m ≤ n → Marked n true (some m)

-- one that is picked or not, before two lists put together
picked : {A : Type 0} (t : Bool) (x : A) (xs ys : List A) {all : List A} → all ≡ xs ++ ys
    → cond t (x ∷ all) all ≡ cond t (x ∷ xs) xs ++ ys
picked {A} true x xs ys e = ap (λ (l : List A). x ∷ l) e
picked false x xs ys e = e

pub bodies_on_append : (d : Direction) (c : ℕ) (xs ys : List Event)
    → bodies_on d c (xs ++ ys) ≡ bodies_on d c xs ++ bodies_on d c ys
unfolding bodies_on
bodies_on_append d c [] ys = refl
bodies_on_append d c (x ∷ xs) ys =
    picked (is_on d c x) x.body (bodies_on d c xs) (bodies_on d c ys) (bodies_on_append d c xs ys)

receipts_append : (xs ys : List Event) → receipts_of (xs ++ ys) ≡ receipts_of xs ++ receipts_of ys
unfolding receipts_of
receipts_append [] ys = refl
receipts_append (x ∷ xs) ys =
    picked (same_direction received x.direction) (receipt x.channel x.body) (receipts_of xs) (receipts_of ys)
    (receipts_append xs ys)

-- the events that a step adds
abbrev pub sent_on : ℕ → ℕ → Event
sent_on c b = record { direction = sent; channel = c; body = b }

abbrev pub received_on : ℕ → ℕ → Event
received_on c b = record { direction = received; channel = c; body = b }

-- an event of its own direction and channel is seen, any other is not
pub sees : (d : Direction) (c : ℕ) (xs : List Event) (e : Event) → is_on d c e ≡ true
    → bodies_on d c (xs ++ (e ∷ [])) ≡ bodies_on d c xs ++ (e.body ∷ [])
unfolding bodies_on
sees d c xs e t = rw (bodies_on_append d c xs (e ∷ []), t)

pub unseen : (d : Direction) (c : ℕ) (xs : List Event) (e : Event) → is_on d c e ≡ false
    → bodies_on d c (xs ++ (e ∷ [])) ≡ bodies_on d c xs
unfolding bodies_on
unseen d c xs e t = rw (bodies_on_append d c xs (e ∷ []), t) (append-nil _)

pub sent_on_lem : (c b : ℕ) → is_on sent c (sent_on c b) ≡ true
unfolding is_on same_direction
sent_on_lem c b = eq-eqb c c refl

pub received_on_lem : (c b : ℕ) → is_on received c (received_on c b) ≡ true
unfolding is_on same_direction
received_on_lem c b = eq-eqb c c refl

pub sent_elsewhere : (c d b : ℕ) → (d ≡ c → ⊥) → is_on sent c (sent_on d b) ≡ false
unfolding is_on same_direction
sent_elsewhere c d b n = ne_eqb c d (λ e. n (sym e))

pub received_elsewhere : (c d b : ℕ) → (d ≡ c → ⊥) → is_on received c (received_on d b) ≡ false
unfolding is_on same_direction
received_elsewhere c d b n = ne_eqb c d (λ e. n (sym e))

pub send_is_no_receive : (c d b : ℕ) → is_on received c (sent_on d b) ≡ false
unfolding is_on same_direction
send_is_no_receive c d b = refl

pub receive_is_no_send : (c d b : ℕ) → is_on sent c (received_on d b) ≡ false
unfolding is_on same_direction
receive_is_no_send c d b = refl

-- the word after one more event
pub word_sent : (xs : List Event) (c b : ℕ) → word_of (xs ++ (sent_on c b ∷ [])) ≡ word_of xs
unfolding word_of receipts_of same_direction
word_sent xs c b = ap (replay 0) (receipts_append xs (sent_on c b ∷ []) ∙ append-nil _)

pub word_received : (xs : List Event) (c b : ℕ)
    → word_of (xs ++ (received_on c b ∷ [])) ≡ enter (word_of xs) (receipt c b)
unfolding word_of receipts_of same_direction
word_received xs c b =
    ap (replay 0) (receipts_append xs (received_on c b ∷ [])) ∙ replay_snoc enter 0 (receipts_of xs) (receipt c b)

-- marking at the end of a history leaves what stands before the mark
pub before_end : (xs : List Event) → before (some (length xs)) xs ≡ xs
unfolding before
before_end xs = take-length xs

-- With at most n sends on c in the first m events, the send that has n before it stands at place m or later; with more,
-- before m.
abbrev sent_within : ℕ → ℕ → List Event → ℕ
sent_within c m es = length (bodies_on sent c (take m es))

abbrev Late : ℕ → ℕ → ℕ → List Event → Type 0
Late c m n es = m ≤ length es → sent_within c m es ≤ n → n < length (bodies_on sent c es) → m ≤ place_of_send c n es

pub place_late : (c m n : ℕ) (es : List Event) → Late c m n es
unfolding bodies_on place_of_send
place_late c zero n es l p q = zero-le
place_late c (suc m) n [] l p q = absurd (omega arith)
place_late c (suc m) zero (e ∷ es) l p q = go (test (is_on sent c e)) (place_late c m zero es)
  where
    go : Tested (is_on sent c e) → Late c m zero es → suc m ≤ place_of_send c zero (e ∷ es)
    go (holds t) ih = absurd (omega (arith, rw t at p))
    go (fails t) ih = rw t (omega (arith, ih (omega arith) (rw t at p) (rw t at q)))
place_late c (suc m) (suc n) (e ∷ es) l p q =
    go (test (is_on sent c e)) (place_late c m n es) (place_late c m (suc n) es)
  where
    go : Tested (is_on sent c e) → Late c m n es → Late c m (suc n) es → suc m ≤ place_of_send c (suc n) (e ∷ es)
    go (holds t) fewer ih =
        rw t (omega (arith, fewer (omega arith) (omega (arith, rw t at p)) (omega (arith, rw t at q))))
    go (fails t) fewer ih = rw t (omega (arith, ih (omega arith) (rw t at p) (rw t at q)))

abbrev Early : ℕ → ℕ → ℕ → List Event → Type 0
Early c m n es = n < sent_within c m es → place_of_send c n es < m

pub place_early : (c m n : ℕ) (es : List Event) → Early c m n es
unfolding bodies_on place_of_send
place_early c zero n es p = absurd (omega arith)
place_early c (suc m) n [] p = absurd (omega arith)
place_early c (suc m) zero (e ∷ es) p = go (test (is_on sent c e)) (place_early c m zero es)
  where
    go : Tested (is_on sent c e) → Early c m zero es → place_of_send c zero (e ∷ es) < suc m
    go (holds t) ih = rw t (omega arith)
    go (fails t) ih = rw t (omega (arith, ih (rw t at p)))
place_early c (suc m) (suc n) (e ∷ es) p =
    go (test (is_on sent c e)) (place_early c m n es) (place_early c m (suc n) es)
  where
    go : Tested (is_on sent c e) → Early c m n es → Early c m (suc n) es → place_of_send c (suc n) (e ∷ es) < suc m
    go (holds t) fewer ih = rw t (omega (arith, fewer (omega (arith, rw t at p))))
    go (fails t) fewer ih = rw t (omega (arith, ih (rw t at p)))
