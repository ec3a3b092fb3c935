-- Laws of what is under way on a channel: one more event in a history, and a mark at its end.
use Prim.Native.Nat.{ℕ, ◌+◌, ◌≤◌}
use mathlib.Core.Path.{◌≡◌, sym, ap, ap₂, ◌∙◌}
use mathlib.Core.Bool.{Bool, true, false}
use mathlib.Core.List.{List, [], ◌∷◌, ◌++◌}
use mathlib.Core.Option.{Option, none, some}
use lib.ListN.{length, drop, length-append}
use lib.Seq.{drop-append-le, drop-drop}
use native.Mathlib.Omega.{arith}
use Rattle.model.specs.declared.Topology.{Topology}
use Rattle.model.specs.declared.Entry.{Entry}
use Rattle.model.specs.declared.Entry.TheVariants.{Message}
use Rattle.model.specs.Topology.{sender, receiver}
use Rattle.model.specs.Notation.{upd}
use Rattle.model.specs.Channel.{markerless}
use Rattle.model.specs.History.{Event, History, sent, received, is_on, bodies_on, is_after, add_event, mark_now}
use Rattle.model.proofs.laws.Functions.{Indices, same, other, indices, upd_same, upd_other, upd_at}
use Rattle.model.proofs.laws.HistoryLaws.{sees, unseen, sent_on, received_on, sent_on_lem, received_on_lem}
use Rattle.model.proofs.laws.HistoryLaws.{receive_is_no_send, send_is_no_receive}
use Rattle.account.specs.Contents.{turned_by, sends, under_way}
use Rattle.account.proofs.Sends.{sends_snoc, sends_unseen, sends_before, sends_length, rest_markerless}

module _ (T : Topology) (t : Bool) (h : History) (c : ℕ) where
  -- the two ends of the channel, how many arrived, and what was sent
  abbrev p : ℕ
  p = sender T c

  abbrev r : ℕ
  r = receiver T c

  abbrev arrived : ℕ
  arrived = length (bodies_on received c (h.events r))

  abbrev out : List Entry
  out = sends t (h.mark p) c 0 (h.events p)

  pub under_way_markerless : markerless (under_way T t h c) ≡ true
  unfolding under_way
  under_way_markerless = rest_markerless t c arrived (h.mark p) 0 (h.events p)

  -- an event e in the book of q, as far as F sees events: one that it doesn't see, and one in the very book
  unseen_by : {A : Type 0} (F : List Event → A) (q : ℕ) (e : Event) (at : ℕ)
      → F (h.events q ++ (e ∷ [])) ≡ F (h.events q) → F ((add_event q e h).events at) ≡ F (h.events at)
  unfolding add_event
  unseen_by F q e at kept = go (indices q at)
    where
      go : Indices q at → F (upd h.events q (h.events q ++ (e ∷ [])) at) ≡ F (h.events at)
      go (same is) =
          ap F (upd_at h.events q at (h.events q ++ (e ∷ [])) is) ∙ kept ∙ ap (λ (x : ℕ). F (h.events x)) is
      go (other n) = ap F (upd_other h.events q at (h.events q ++ (e ∷ [])) n)

  own_book : (q : ℕ) (e : Event) → (add_event q e h).events q ≡ h.events q ++ (e ∷ [])
  unfolding add_event
  own_book q e = upd_same h.events q (h.events q ++ (e ∷ []))

  -- an event that is no receive on c, or no send on c
  arrived_same : (q : ℕ) (e : Event) → is_on received c e ≡ false
      → length (bodies_on received c ((add_event q e h).events r)) ≡ arrived
  arrived_same q e off =
      unseen_by (λ (es : List Event). length (bodies_on received c es)) q e r
      (ap length (unseen received c (h.events q) e off))

  out_same : (q : ℕ) (e : Event) → is_on sent c e ≡ false → sends t (h.mark p) c 0 ((add_event q e h).events p) ≡ out
  out_same q e off =
      unseen_by (sends t (h.mark p) c 0) q e p (sends_unseen t c (h.mark p) 0 (h.events q) e off)

  -- after an event that isn't on c
  pub under_way_elsewhere : (q : ℕ) (e : Event) → is_on sent c e ≡ false → is_on received c e ≡ false
      → under_way T t (add_event q e h) c ≡ under_way T t h c
  unfolding under_way add_event
  under_way_elsewhere q e unsent unreceived = ap₂ drop (arrived_same q e unreceived) (out_same q e unsent)

  -- after a mark at the end of a history
  pub under_way_marked : (q : ℕ) → h.mark q ≡ none → under_way T t (mark_now q h) c ≡ under_way T t h c
  unfolding under_way mark_now
  under_way_marked q unmarked = ap (drop arrived) (go (indices q p))
    where
      at_end : ℕ → Option ℕ
      at_end x = some (length (h.events x))

      go : Indices q p → sends t (upd h.mark q (at_end q) p) c 0 (h.events p) ≡ out
      go (same is) =
          rw (upd_at h.mark q p (at_end q) is ∙ ap at_end is, ap h.mark (sym is) ∙ unmarked)
          (sends_before t c (length (h.events p)) 0 (h.events p) (omega arith))
      go (other n) = rw (upd_other h.mark q p (at_end q) n)

  -- a message sent on c, and one received
  pub under_way_sent : (b : ℕ) → arrived ≤ length (bodies_on sent c (h.events p))
      → under_way T t (add_event p (sent_on c b) h) c
      ≡ under_way T t h c ++ (Message b (turned_by t (is_after (h.mark p) (length (h.events p)))) ∷ [])
  unfolding under_way add_event
  under_way_sent b fewer =
      let last : Entry = Message b (turned_by t (is_after (h.mark p) (length (h.events p)))) in
      let longer : sends t (h.mark p) c 0 ((add_event p (sent_on c b) h).events p) ≡ out ++ (last ∷ []) =
      ap (sends t (h.mark p) c 0) (own_book p (sent_on c b))
      ∙ sends_snoc t c (h.mark p) 0 (h.events p) (sent_on c b) (sent_on_lem c b)
      ∙ ap (λ (k : ℕ). out ++ (Message b (turned_by t (is_after (h.mark p) k)) ∷ [])) (omega arith) in
      ap₂ drop (arrived_same p (sent_on c b) (send_is_no_receive c c b)) longer
      ∙ drop-append-le arrived out (last ∷ []) (omega (arith, sends_length t c (h.mark p) 0 (h.events p), fewer))

  pub under_way_received : (b : ℕ) → under_way T t (add_event r (received_on c b) h) c ≡ drop 1 (under_way T t h c)
  unfolding under_way add_event
  under_way_received b =
      let more : length (bodies_on received c ((add_event r (received_on c b) h).events r)) ≡ arrived + 1 =
      ap (λ (l : List Event). length (bodies_on received c l)) (own_book r (received_on c b))
      ∙ ap length (sees received c (h.events r) (received_on c b) (received_on_lem c b))
      ∙ length-append (bodies_on received c (h.events r)) (b ∷ []) in
      ap₂ drop more (out_same r (received_on c b) (receive_is_no_send c c b)) ∙ sym (drop-drop 1 arrived out)
