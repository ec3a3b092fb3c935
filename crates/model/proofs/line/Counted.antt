-- How many entries a channel's log has, by the state (count) and by the store (stored): the same. Or the power was lost
-- within a receive into two logs, and the store is ahead: then the message is still first on the channel, an old one,
-- and its receiver has its logical checkpoint (r). Before it is received again, which writes that count once more, the
-- channel can't be closed. t is the tag that all had before the round's logical checkpoints.
use Prim.Native.Nat.{ℕ}
use mathlib.Core.Path.{◌≡◌, refl, sym, ap, ◌∙◌}
use mathlib.Core.Bool.{Bool, true, false, not}
use mathlib.Core.List.{List, ◌∷◌, ◌++◌}
use native.Mathlib.Omega.{arith}
use Rattle.model.specs.declared.Entry.{Entry}
use Rattle.model.specs.declared.Entry.TheVariants.{Message, Marker}
use Rattle.model.proofs.laws.Tests.{true_is_not_false, not_itself}
use Rattle.model.proofs.line.ChannelState.{Balanced, open_while_old}

pub data Counted (t r : Bool) (es : List Entry) (count stored : ℕ) : Type 0 where
  exact : count ≡ stored → Counted t r es count stored
  ahead : {b : ℕ} {rest : List Entry} → r ≡ true → es ≡ Message b t ∷ rest → Counted t r es count stored

-- what is known of the two stays where entries are sent, and where the receiver gets its logical checkpoint
pub counted_longer : {t r : Bool} {es : List Entry} {n m : ℕ} (xs : List Entry) → Counted t r es n m
    → Counted t r (es ++ xs) n m
counted_longer xs (exact e) = exact e
counted_longer xs (ahead l first) = ahead l (ap (λ (l : List Entry). l ++ xs) first)

pub counted_logical : {t r : Bool} {es : List Entry} {n m : ℕ} (r' : Bool) → (r' ≡ false → r ≡ false)
    → Counted t r es n m → Counted t r' es n m
counted_logical r' f (exact e) = exact e
counted_logical r' f (ahead l first) = ahead (go r' refl) first
  where
    go : (x : Bool) → r' ≡ x → r' ≡ true
    go true e = e
    go false e = true_is_not_false l (f e)

-- they are the same with a receiver that has none yet, with a marker or a new message first, and on a closed channel
pub counted_before : {t r : Bool} {es : List Entry} {n m : ℕ} → r ≡ false → Counted t r es n m → n ≡ m
counted_before z (exact e) = e
counted_before z (ahead l first) = true_is_not_false l z

pub counted_marker : {t r : Bool} {es : List Entry} {n m : ℕ} → Counted t r (Marker ∷ es) n m → n ≡ m
counted_marker (exact e) = e
counted_marker (ahead l first) = let z : ◌≡◌ {A = ℕ} 0 1 = cc in absurd (omega arith)

pub counted_new : {t r u : Bool} {b : ℕ} {es : List Entry} {n m : ℕ} → u ≡ not t → Counted t r (Message b u ∷ es) n m
    → n ≡ m
counted_new z (exact e) = e
counted_new {t} {u = u} z (ahead l is) = let same : u ≡ t = cc in not_itself t (sym z ∙ same)

pub counted_closed : {t a r s k : Bool} {es : List Entry} {log out in' : List ℕ} {n m : ℕ} → k ≡ true
    → Balanced t a r s k es log out in' → Counted t r es n m → n ≡ m
counted_closed e l (exact c) = c
counted_closed e l (ahead z first) = absurd (open_while_old (rw first at l) refl e)
