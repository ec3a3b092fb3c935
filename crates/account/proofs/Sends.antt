-- Laws of the messages that a history tells were sent on a channel, and of the marker among them.
use Prim.Native.Nat.{ℕ, zero, suc, ◌+◌, ◌-◌, ◌≤◌}
use mathlib.Core.Path.{◌≡◌, refl, sym, ap, ◌∙◌}
use mathlib.Core.Bool.{Bool, true, false, cond}
use mathlib.Core.List.{List, [], ◌∷◌, ◌++◌, append_assoc}
use mathlib.Core.Option.{Option, none, some}
use lib.ListN.{length, take, drop, length-append}
use lib.Seq.{take-append-le, drop-append-le, take-length, drop-length}
use borrow.Author.Tests.{lt-leb}
use native.Mathlib.Omega.{arith}
use Rattle.model.specs.declared.Entry.{Entry}
use Rattle.model.specs.declared.Entry.TheVariants.{Message, Marker}
use Rattle.model.specs.Channel.{messages, markerless}
use Rattle.model.specs.History.{Event, sent, is_on, bodies_on, is_after}
use Rattle.model.proofs.laws.Tests.{true_is_not_false, either}
use Rattle.account.specs.Contents.{turned_by, sends, with_marker}

-- what holds of the branches of two tests that are the same
both : {A B : Type 0} (R : A → B → Type 0) (t : Bool) {a a' : A} {b b' : B} → R a b → R a' b'
    → R (cond t a a') (cond t b b')
both R true p q = p
both R false p q = q

module _ (t : Bool) (c : ℕ) where
  -- a send, or another event, at the end
  pub sends_snoc : (m : Option ℕ) (n : ℕ) (xs : List Event) (e : Event) → is_on sent c e ≡ true
      → sends t m c n (xs ++ (e ∷ []))
      ≡ sends t m c n xs ++ (Message e.body (turned_by t (is_after m (n + length xs))) ∷ [])
  unfolding sends
  sends_snoc m n [] e on = rw on (ap (λ (k : ℕ). Message e.body (turned_by t (is_after m k)) ∷ []) (omega arith))
  sends_snoc m n (x ∷ xs) e on =
      let last : List Entry = Message e.body (turned_by t (is_after m (n + length (x ∷ xs)))) ∷ [] in
      let rest : sends t m c (n + 1) (xs ++ (e ∷ [])) ≡ sends t m c (n + 1) xs ++ last =
      sends_snoc m (n + 1) xs e on
      ∙ ap (λ (k : ℕ). sends t m c (n + 1) xs ++ (Message e.body (turned_by t (is_after m k)) ∷ [])) (omega arith) in
      both (λ (l k : List Entry). l ≡ k ++ last) (is_on sent c x)
      (ap (λ (l : List Entry). Message x.body (turned_by t (is_after m n)) ∷ l) rest) rest

  pub sends_unseen : (m : Option ℕ) (n : ℕ) (xs : List Event) (e : Event) → is_on sent c e ≡ false
      → sends t m c n (xs ++ (e ∷ [])) ≡ sends t m c n xs
  unfolding sends
  sends_unseen m n [] e on = rw on
  sends_unseen m n (x ∷ xs) e on = rw (sends_unseen m (n + 1) xs e on)

  -- before the mark, and without one
  pub sends_before : (k n : ℕ) (xs : List Event) → n + length xs ≤ k → sends t (some k) c n xs ≡ sends t none c n xs
  unfolding sends is_after
  sends_before k n [] l = refl
  sends_before k n (x ∷ xs) l = rw (sends_before k (n + 1) xs (omega arith), lt-leb k n (omega arith))

  pub sends_plain : (n : ℕ) (xs : List Event) → sends t none c n xs ≡ messages t (bodies_on sent c xs)
  unfolding sends messages bodies_on is_after turned_by
  sends_plain n [] = refl
  sends_plain n (x ∷ xs) =
      let rest = sends_plain (n + 1) xs in
      both (λ (l : List Entry) (bs : List ℕ). l ≡ messages t bs) (is_on sent c x)
      (ap (λ (l : List Entry). Message x.body t ∷ l) rest) rest

  pub sends_length : (m : Option ℕ) (n : ℕ) (xs : List Event)
      → length (sends t m c n xs) ≡ length (bodies_on sent c xs)
  unfolding sends bodies_on
  sends_length m n [] = refl
  sends_length m n (x ∷ xs) =
      let rest = sends_length m (n + 1) xs in
      both (λ (l : List Entry) (bs : List ℕ). length l ≡ length bs) (is_on sent c x) (ap suc rest) rest

  sends_markerless : (m : Option ℕ) (n : ℕ) (xs : List Event) → markerless (sends t m c n xs) ≡ true
  unfolding sends markerless
  sends_markerless m n [] = refl
  sends_markerless m n (x ∷ xs) =
      let rest = sends_markerless m (n + 1) xs in
      either (λ (l : List Entry). markerless l ≡ true) (is_on sent c x) _ _ rest rest

  pub rest_markerless : (k : ℕ) (m : Option ℕ) (n : ℕ) (xs : List Event) → markerless (drop k (sends t m c n xs)) ≡ true
  unfolding markerless
  rest_markerless k m n xs = go k (sends t m c n xs) (sends_markerless m n xs)
    where
      go : (k : ℕ) (es : List Entry) → markerless es ≡ true → markerless (drop k es) ≡ true
      go zero es e = e
      go (suc k) [] e = refl
      go (suc k) (Message b u ∷ es) e = go k es e
      go (suc k) (Marker ∷ es) e = true_is_not_false e refl

-- the marker among the messages: sent last; one more message behind it; the first message received; the marker received
pub marker_last : (es : List Entry) → with_marker 0 es ≡ es ++ (Marker ∷ [])
unfolding with_marker
marker_last es = let all : length es - 0 ≡ length es = omega arith in rw (all, take-length es, drop-length es)

pub marker_more : (n : ℕ) (es : List Entry) (x : Entry)
    → with_marker (n + 1) (es ++ (x ∷ [])) ≡ with_marker n es ++ (x ∷ [])
unfolding with_marker
marker_more n es x =
    let k : ℕ = length es - n in
    let place : length (es ++ (x ∷ [])) - (n + 1) ≡ k = omega (arith, length-append es (x ∷ [])) in
    rw (place, take-append-le k es (x ∷ []) (omega arith), drop-append-le k es (x ∷ []) (omega arith))
    (sym (append_assoc (take k es) (Marker ∷ drop k es) (x ∷ [])))

pub message_before_marker : (n : ℕ) (es rest : List Entry) (b : ℕ) (u : Bool) → with_marker n es ≡ Message b u ∷ rest
    → with_marker n (drop 1 es) ≡ rest
unfolding with_marker
message_before_marker n es rest b u e = go es (length es - n) refl e
  where
    go : (es : List Entry) (k : ℕ) → length es - n ≡ k → take k es ++ (Marker ∷ drop k es) ≡ Message b u ∷ rest
        → with_marker n (drop 1 es) ≡ rest
    go es zero l e = let z : ◌≡◌ {A = ℕ} 0 1 = cc in absurd (omega arith)
    go [] (suc k) l e = let z : ◌≡◌ {A = ℕ} 0 1 = cc in absurd (omega arith)
    go (x ∷ es) (suc k) l e =
        let shorter : length es - n ≡ k = omega arith in
        let q : take k es ++ (Marker ∷ drop k es) ≡ rest = cc in rw shorter q

pub marker_first : (n : ℕ) (es rest : List Entry) → markerless es ≡ true → with_marker n es ≡ Marker ∷ rest → es ≡ rest
unfolding with_marker markerless
marker_first n es rest none-there e = go (length es - n) es none-there e
  where
    go : (k : ℕ) (es : List Entry) → markerless es ≡ true → take k es ++ (Marker ∷ drop k es) ≡ Marker ∷ rest
        → es ≡ rest
    go zero es m e = cc
    go (suc k) [] m e = cc
    go (suc k) (Message b t ∷ es) m e = let z : ◌≡◌ {A = ℕ} 0 1 = cc in absurd (omega arith)
    go (suc k) (Marker ∷ es) m e = true_is_not_false m refl
