-- Books: one more event in one of them, a mark at the end of one, and what of that a channel sees.
use Prim.Native.Nat.{ℕ, ◌≤◌}
use mathlib.Core.Path.{◌≡◌, refl, ap, ◌∙◌}
use mathlib.Core.Bool.{Bool, true, false}
use mathlib.Core.List.{List, [], ◌∷◌, ◌++◌}
use mathlib.Core.Option.{Option, none, some}
use lib.ListN.{length, take, length-append}
use lib.Seq.{take-append-le}
use native.Mathlib.Omega.{arith}
use Rattle.model.specs.declared.Phase.{Phase}
use Rattle.model.specs.declared.Phase.TheVariants.{Idle, Physical, Logical}
use Rattle.model.specs.History.{Event, Direction, History, is_on, bodies_on, add_event, mark_now}
use Rattle.model.proofs.laws.Tests.{true_is_not_false}
use Rattle.model.proofs.laws.Functions.{Indices, same, other, indices, upd_same, upd_other}
use Rattle.model.proofs.laws.HistoryLaws.{before, Marked, unmarked, marked, unseen, before_end}
use Rattle.model.proofs.line.Values.{Book, Process, book_of, seen_of}
use Rattle.model.proofs.line.Invariant.{ProcessHolds}

-- one more event; a mark at the end
abbrev pub longer : Event → Book → Book
longer e k = record { events = k.events ++ (e ∷ []); place = k.place; mark = k.mark }

abbrev pub marked_book : Book → Book
marked_book k = record { events = k.events; place = k.place; mark = some (length k.events) }

-- its place in the line and its mark are within it
pub record Whole (k : Book) : Type 0 where
  pub place : k.place ≤ length k.events
  pub flag : Bool
  pub mark : Marked (length k.events) flag k.mark

pub whole : {t : Bool} (ph : Phase) {p : ℕ} {v : Process} → ProcessHolds t ph p v → Whole v.book
whole Idle {v = v} i = record { place = i.within; flag = false; mark = rw i.round.mark unmarked }
whole (Physical next) {v = v} i = record { place = i.within; flag = false; mark = rw i.round.plain.mark unmarked }
whole Logical {v = v} i = record { place = i.within; flag = v.logical; mark = i.round.mark }

pub no_mark : {n : ℕ} {b : Bool} {m : Option ℕ} → Marked n b m → b ≡ false → m ≡ none
no_mark unmarked e = refl
no_mark (marked h) e = true_is_not_false refl e

pub one_longer : (xs : List Event) (e : Event) → length xs ≤ length (xs ++ (e ∷ []))
one_longer xs e = omega (arith, length-append xs (e ∷ []))

pub marked_longer : {n : ℕ} {b : Bool} {m : Option ℕ} (n' : ℕ) → n ≤ n' → Marked n b m → Marked n' b m
marked_longer n' l unmarked = unmarked
marked_longer n' l (marked {m} h) = marked {m = m} (omega arith)

-- what stands before a mark does not change behind it
pub before_longer : {n : ℕ} {b : Bool} {m : Option ℕ} (xs : List Event) (e : Event) → n ≡ length xs → Marked n b m
    → b ≡ true → before m (xs ++ (e ∷ [])) ≡ before m xs
unfolding before
before_longer xs e l unmarked t = true_is_not_false t refl
before_longer xs e l (marked {m} h) t = take-append-le m xs (e ∷ []) (omega arith)

-- whatever F reads of the events up to the line, and before the mark, where an event at the end doesn't change it
pub line_longer : {A : Type 0} (F : List Event → A) (k : Book) (e : Event) → Whole k
    → F (take k.place (k.events ++ (e ∷ []))) ≡ F (take k.place k.events)
line_longer F k e w = ap F (take-append-le k.place k.events (e ∷ []) w.place)

pub mark_longer : {A : Type 0} (F : List Event → A) (k : Book) (e : Event) → Whole k
    → F (k.events ++ (e ∷ [])) ≡ F k.events
    → F (before k.mark (k.events ++ (e ∷ []))) ≡ F (before k.mark k.events)
unfolding before
mark_longer F k e w kept = go refl w.mark
  where
    go : {n : ℕ} {b : Bool} {m : Option ℕ} → n ≡ length k.events → Marked n b m
        → F (before m (k.events ++ (e ∷ []))) ≡ F (before m k.events)
    go l unmarked = kept
    go l (marked {m} h) = ap F (take-append-le m k.events (e ∷ []) (omega arith))

-- a channel that doesn't see the event sees what it saw
pub seen_longer : (d : Direction) (c : ℕ) (k : Book) (e : Event) → is_on d c e ≡ false → Whole k
    → seen_of d c (longer e k) ≡ seen_of d c k
unfolding seen_of
seen_longer d c k e u w =
    let kept : bodies_on d c (k.events ++ (e ∷ [])) ≡ bodies_on d c k.events = unseen d c k.events e u in
    let before = mark_longer (bodies_on d c) k e w kept in
    λ i. record { all = kept i; line = line_longer (bodies_on d c) k e w i; mark = before i }

-- a mark at the end of an unmarked book changes nothing that is seen
pub seen_marked : (d : Direction) (c : ℕ) (k : Book) → k.mark ≡ none → seen_of d c (marked_book k) ≡ seen_of d c k
unfolding seen_of before
seen_marked d c k e = rw (e, before_end k.events)

-- histories: the book that gets the event or the mark, and the others
module _ (h : History) (p : ℕ) where
  pub book_added : (e : Event) → book_of (add_event p e h) p ≡ longer e (book_of h p)
  unfolding book_of add_event
  book_added e = rw (upd_same h.events p (h.events p ++ (e ∷ [])))

  pub book_added_other : (e : Event) (q : ℕ) → (p ≡ q → ⊥) → book_of (add_event p e h) q ≡ book_of h q
  unfolding book_of add_event
  book_added_other e q n = rw (upd_other h.events p q (h.events p ++ (e ∷ [])) n)

  pub book_marked : book_of (mark_now p h) p ≡ marked_book (book_of h p)
  unfolding book_of mark_now
  book_marked = rw (upd_same h.mark p (some (length (h.events p))))

  pub book_marked_other : (q : ℕ) → (p ≡ q → ⊥) → book_of (mark_now p h) q ≡ book_of h q
  unfolding book_of mark_now
  book_marked_other q n = rw (upd_other h.mark p q (some (length (h.events p))) n)

  -- an event in p's book that channel c doesn't see, in whatever book it looks
  pub seen_added : (d : Direction) (c : ℕ) (e : Event) (q : ℕ) → is_on d c e ≡ false → Whole (book_of h q)
      → seen_of d c (book_of (add_event p e h) q) ≡ seen_of d c (book_of h q)
  seen_added d c e q u w = go (indices p q)
    where
      go : Indices p q → seen_of d c (book_of (add_event p e h) q) ≡ seen_of d c (book_of h q)
      go (same i) = rw (← i) (ap (seen_of d c) (book_added e) ∙ seen_longer d c (book_of h p) e u (rw i w))
      go (other n) = ap (seen_of d c) (book_added_other e q n)

  -- a mark in p's book, which has none
  pub seen_marked_in : (d : Direction) (c q : ℕ) → (book_of h p).mark ≡ none
      → seen_of d c (book_of (mark_now p h) q) ≡ seen_of d c (book_of h q)
  seen_marked_in d c q e = go (indices p q)
    where
      go : Indices p q → seen_of d c (book_of (mark_now p h) q) ≡ seen_of d c (book_of h q)
      go (same i) = rw (← i) (ap (seen_of d c) book_marked ∙ seen_marked d c (book_of h p) e)
      go (other n) = ap (seen_of d c) (book_marked_other q n)
