-- The histories' mark at a message received agrees with the tags: the send looked at stands after the sender's mark
-- exactly if the message is new.
use Prim.Native.Nat.{ℕ, ◌<◌, ◌≤◌}
use mathlib.Core.Path.{◌≡◌, refl, ap}
use mathlib.Core.Bool.{Bool, true, false, not}
use mathlib.Core.List.{List, [], ◌∷◌, ◌++◌}
use mathlib.Core.Option.{Option, none}
use lib.ListN.{length, length-append}
use borrow.Author.Tests.{le-leb, lt-leb}
use native.Mathlib.Omega.{arith}
use Rattle.model.specs.declared.Topology.{Topology}
use Rattle.model.specs.declared.Entry.{Entry}
use Rattle.model.specs.declared.Entry.TheVariants.{Message}
use Rattle.model.specs.Topology.{sender, receiver}
use Rattle.model.specs.Channel.{bodies}
use Rattle.model.specs.History.{looked_at, Event, History, sent, received, bodies_on, place_of_send, is_after}
use Rattle.model.specs.History.{sent_after_mark}
use Rattle.model.specs.History.{on_message, mark_unmarked, mark_now, add_event}
use Rattle.model.proofs.laws.Tests.{true_is_not_false, either}
use Rattle.model.proofs.laws.HistoryLaws.{before, Marked, unmarked, marked, place_early, place_late, received_on}
use Rattle.model.proofs.line.ChannelState.{Balanced, old_first, new_first}

module _ (T : Topology) (c b : ℕ) (h : History) where
  pub on_early : sent_after_mark T c h ≡ false → on_message T c b h ≡ add_event (receiver T c) (received_on c b) h
  unfolding on_message
  on_early e = rw e

  -- outside the logical phase no send stands after a mark
  pub on_unmarked : h.mark (sender T c) ≡ none → on_message T c b h ≡ add_event (receiver T c) (received_on c b) h
  unfolding sent_after_mark is_after
  on_unmarked e = on_early (rw e)

  pub on_late : sent_after_mark T c h ≡ true → h.mark (receiver T c) ≡ none
      → on_message T c b h ≡ add_event (receiver T c) (received_on c b) (mark_now (receiver T c) h)
  unfolding on_message mark_unmarked
  on_late e z = simp (e, z)

  -- a receiver that has its mark gets no other
  pub stays_marked : {n : ℕ} {x : Bool} {m : Option ℕ} → Marked n x m → x ≡ true → mark_unmarked m (receiver T c) h ≡ h
  unfolding mark_unmarked
  stays_marked unmarked e = true_is_not_false e refl
  stays_marked (marked k) e = refl

  pub on_marked : {n : ℕ} {x : Bool} → Marked n x (h.mark (receiver T c)) → x ≡ true
      → on_message T c b h ≡ add_event (receiver T c) (received_on c b) h
  unfolding on_message
  on_marked k e =
      ap (add_event (receiver T c) (received_on c b))
      (either (λ (g : History). g ≡ h) (sent_after_mark T c h) _ _ (stays_marked k e) refl)

-- n receives before this one: the send with n sends before it, early or late, by how many there are before the mark
early_send : {k : ℕ} {x : Bool} {m : Option ℕ} (c n : ℕ) (es : List Event) → Marked k x m
    → n < length (bodies_on sent c (before m es)) → is_after m (place_of_send c n es) ≡ false
unfolding is_after before
early_send c n es unmarked l = refl
early_send c n es (marked {m} k) l = lt-leb m (place_of_send c n es) (place_early c m n es l)

late_send : {k : ℕ} {x : Bool} {m : Option ℕ} (c n : ℕ) (es : List Event) → k ≡ length es → Marked k x m → x ≡ true
    → length (bodies_on sent c (before m es)) ≤ n → n < length (bodies_on sent c es)
    → is_after m (place_of_send c n es) ≡ true
unfolding is_after before
late_send c n es e unmarked z l k = true_is_not_false z refl
late_send c n es e (marked {m} j) z l k = le-leb m (place_of_send c n es) (place_late c m n es (omega arith) l k)

-- the first entry is a message to a receiver that has no mark of the round
module _ (T : Topology) (c b : ℕ) (h : History) {t a r s k u : Bool} {es : List Entry} {log : List ℕ}
    (sender-marked : Marked (length (h.events (sender T c))) a (h.mark (sender T c)))
    (receiver-unmarked : h.mark (receiver T c) ≡ none)
    (l : Balanced t a r s k (Message b u ∷ es) log
    (bodies_on sent c (before (h.mark (sender T c)) (h.events (sender T c))))
    (bodies_on received c (before (h.mark (receiver T c)) (h.events (receiver T c))))) where
  abbrev out : List ℕ
  out = bodies_on sent c (before (h.mark (sender T c)) (h.events (sender T c)))

  abbrev arrived : List ℕ
  arrived = bodies_on received c (h.events (receiver T c))

  -- all that it has received is before a mark
  balance : out ≡ arrived ++ (log ++ l.before)
  unfolding before
  balance = rw receiver-unmarked at l.balance

  pub old_is_early : u ≡ t → sent_after_mark T c h ≡ false
  unfolding sent_after_mark looked_at
  old_is_early e =
      let (rest, is, shape) = old_first l.shape e in
      let q : out ≡ arrived ++ (log ++ (b ∷ rest)) = rw is at balance in
      early_send c (length arrived) (h.events (sender T c)) sender-marked
      (omega (arith, ap length q, length-append arrived (log ++ (b ∷ rest)), length-append log (b ∷ rest)))

  pub new_is_late : u ≡ not t → r ≡ false → a ≡ true
      → bodies_on sent c (h.events (sender T c)) ≡ arrived ++ bodies (Message b u ∷ es) → sent_after_mark T c h ≡ true
  unfolding sent_after_mark looked_at bodies
  new_is_late e z y flow =
      let q : out ≡ arrived ++ [] = rw (l.unlogged z, (new_first l.shape e).0) at balance in
      late_send c (length arrived) (h.events (sender T c)) refl sender-marked y
      (omega (arith, ap length q, length-append arrived []))
      (omega (arith, ap length flow, length-append arrived (b ∷ bodies es)))
