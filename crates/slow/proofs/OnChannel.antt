-- Laws of what the histories tell: a word, the sends on a channel, and the marker among those under way.
use Prim.Native.Nat.{ℕ, zero, suc, ◌+◌, ◌-◌, ◌≤◌}
use mathlib.Core.Path.{◌≡◌, refl, sym, ap, ap₂, ◌∙◌}
use mathlib.Core.Bool.{Bool, true, false, cond, not, ◌&&◌}
use mathlib.Core.List.{List, [], ◌∷◌, ◌++◌, append-nil, append_assoc}
use mathlib.Core.Option.{Option}
use lib.ListN.{length, get_or, take, drop, length-append, length-drop, drop_of_length-le}
use lib.Seq.{take_all, take-nil, drop-nil, drop-drop}
use lib.Dec.{eqb}
use borrow.Author.Tests.{eqb-true, eqb-false, eq-eqb, ne_eqb}
use native.Mathlib.Omega.{arith}
use Rattle.model.specs.declared.Topology.{Topology}
use Rattle.model.specs.declared.Entry.{Entry}
use Rattle.model.specs.declared.Entry.TheVariants.{Message, Marker}
use Rattle.model.specs.Notation.{tabulate}
use Rattle.model.specs.Word.{enter, receipt, replay}
use Rattle.model.specs.Topology.{sender, receiver}
use Rattle.model.specs.Channel.{entry_of}
use Rattle.model.specs.History.{Event, sent, received, same_direction, is_on, receipts_of, is_after}
use Rattle.model.proofs.laws.Tests.{Tested, holds, fails, test}
use Rattle.model.proofs.laws.Lists.{tabulate_more, tabulate_length}
use Rattle.model.proofs.laws.HistoryLaws.{word_of, word_sent, word_received}
use Rattle.account.specs.declared.Deed.{Deed}
use Rattle.slow.specs.declared.deeds.Past.{Past}
use Rattle.slow.specs.declared.events.Histories.{Histories}
use Rattle.account.specs.Deeds.{did, on_channel}
use Rattle.account.specs.Contents.{turned_by, sends, behind, under_way, with_marker}
use Rattle.slow.specs.Kept.{deed_at, past_of}
use Rattle.slow.specs.Seen.{event_of, mark_of, mark_in, place_in, history_seen, on_events, kind_of, sent_by, between}
use Rattle.slow.specs.Seen.{Here, with_marker_if}
use Rattle.account.proofs.Sends.{sends_snoc, sends_unseen, sends_length}

-- one more event of a word
pub word_more : (ev : ℕ → Deed) (k : ℕ)
    → let w : ℕ = replay 0 (receipts_of (tabulate k (λ i. event_of (ev i)))) in
    cond (not (did 1 (ev k))) (enter w (receipt (ev k).channel (ev k).body)) w
    ≡ replay 0 (receipts_of (tabulate (k + 1) (λ i. event_of (ev i))))
unfolding word_of
word_more ev k =
    rw (tabulate_more k (λ i. event_of (ev i))) (go (test (did 1 (ev k))))
  where
    xs : List Event
    xs = tabulate k (λ i. event_of (ev i))

    go : Tested (did 1 (ev k))
        → cond (not (did 1 (ev k))) (enter (word_of xs) (receipt (ev k).channel (ev k).body)) (word_of xs)
        ≡ word_of (xs ++ (event_of (ev k) ∷ []))
    go (holds e) = rw e (sym (word_sent xs (ev k).channel (ev k).body))
    go (fails e) = rw e (sym (word_received xs (ev k).channel (ev k).body))

eqb_sym : (a b : ℕ) → eqb a b ≡ eqb b a
eqb_sym a b = go (test (eqb a b))
  where
    go : Tested (eqb a b) → eqb a b ≡ eqb b a
    go (holds e) = e ∙ sym (eq-eqb b a (sym (eqb-true a b e)))
    go (fails e) = e ∙ sym (ne_eqb b a (λ z. eqb-false a b e (sym z)))

sent_is : (c : ℕ) (d : Deed) → is_on sent c (event_of d) ≡ on_channel 1 c d
unfolding is_on same_direction
sent_is c d = go (did 1 d)
  where
    go : (t : Bool) → (same_direction sent (cond t sent received) && eqb c d.channel) ≡ (t && eqb d.channel c)
    go true = eqb_sym c d.channel
    go false = refl

-- a message's kind says its tag
kind_says : (t late : Bool) (b : ℕ) → entry_of (kind_of t late) b ≡ Message b (turned_by t late)
unfolding entry_of turned_by
kind_says true true b = refl
kind_says true false b = refl
kind_says false true b = refl
kind_says false false b = refl

-- The sends that the code finds are those of the history.
module _ (t : Bool) (past : Past) (b : Histories) (p c : ℕ) where
  abbrev ev : ℕ → Event
  ev k = event_of (deed_at past (place_in b p k))

  abbrev mark : Option ℕ
  mark = mark_of (mark_in b p)

  sent_are : (n : ℕ) → sent_by t past b p c n ≡ sends t mark c 0 (tabulate n ev)
  unfolding sent_by tabulate sends
  sent_are zero = refl
  sent_are (suc n) = go (test (on_channel 1 c (deed_at past (place_in b p n)))) (sent_are n)
    where
      d : Deed
      d = deed_at past (place_in b p n)

      late : Bool
      late = is_after mark n

      xs : List Event
      xs = tabulate n ev

      there : 0 + length xs ≡ n
      there = omega (arith, tabulate_length n ev)

      one : Message d.body (turned_by t (is_after mark (0 + length xs))) ≡ entry_of (kind_of t late) d.body
      one =
          ap (λ (x : Bool). Message d.body (turned_by t x))
          (ap (is_after mark) there)
          ∙ sym (kind_says t late d.body)

      go : Tested (on_channel 1 c d) → sent_by t past b p c n ≡ sends t mark c 0 xs
          → sent_by t past b p c n ++ cond (on_channel 1 c d) (entry_of (kind_of t late) d.body ∷ []) []
          ≡ sends t mark c 0 (xs ++ (ev n ∷ []))
      go (holds e) ih =
          ap₂ (λ (l : List Entry) (x : Bool). l ++ cond x (entry_of (kind_of t late) d.body ∷ []) []) ih e
          ∙ sym (sends_snoc t c mark 0 xs (ev n) (sent_is c d ∙ e)
          ∙ ap (λ (x : Entry). sends t mark c 0 xs ++ (x ∷ [])) one)
      go (fails e) ih =
          ap₂ (λ (l : List Entry) (x : Bool). l ++ cond x (entry_of (kind_of t late) d.body ∷ []) []) ih e
          ∙ append-nil (sends t mark c 0 xs)
          ∙ sym (sends_unseen t c mark 0 xs (ev n) (sent_is c d ∙ e))

drop_take : {A : Type 0} (a b : ℕ) (l : List A) → drop a (take (a + b) l) ≡ take b (drop a l)
drop_take zero b l = let e : 0 + b ≡ b = omega arith in ap (λ (k : ℕ). take k l) e
drop_take (suc a) b [] = ap (drop (suc a)) (take-nil (suc a + b)) ∙ drop-nil (suc a) ∙ sym (take-nil b)
drop_take (suc a) b (x ∷ l) =
    let e : suc a + b ≡ suc (a + b) = omega arith in
    ap (λ (k : ℕ). drop (suc a) (take k (x ∷ l))) e ∙ drop_take a b l

-- What is pushed onto a channel: the part ahead of the marker, the marker, if there is one, and the rest.
pub record Split (S way : List Entry) (marker : Bool) (received total n at : ℕ) : Type 0 where
  pub all : total ≡ length S
  pub under_way_lem : drop received S ≡ way
  pub here : at ≡ cond marker (received + (total - received - n)) total
  pub fits : length (with_marker_if marker n way) ≤ 8

abbrev marker_if : Bool → List Entry
marker_if marker = cond marker (Marker ∷ []) []

module _ (S : List Entry) (received total n : ℕ) (all : total ≡ length S) where
  abbrev es : List Entry
  es = drop received S

  abbrev ahead : ℕ
  ahead = total - received - n

  counted : ahead ≡ length es - n
  counted = omega (arith, length-drop received S, all)

  -- with a marker, and without
  split_there : (between received (received + ahead) S ++ (Marker ∷ [])) ++ between (received + ahead) total S
      ≡ with_marker n es
  unfolding with_marker
  split_there =
      ap₂ (λ (a z : List Entry). (a ++ (Marker ∷ [])) ++ z)
      (drop_take received ahead S ∙ ap (λ (k : ℕ). take k es) counted)
      (ap (drop (received + ahead)) (take_all total S (omega (arith, all)))
      ∙ sym (drop-drop ahead received S) ∙ ap (λ (k : ℕ). drop k es) counted)
      ∙ append_assoc (take (length es - n) es) (Marker ∷ []) (drop (length es - n) es)

  split_nowhere : (between received total S ++ []) ++ between total total S ≡ es
  split_nowhere =
      rw (
        append-nil (between received total S),
        take_all total S (omega (arith, all)),
        drop_of_length-le S {i = total} (omega (arith, all)),
      )
      (append-nil es)

module _ {S way : List Entry} {marker : Bool} {received total n at : ℕ}
    (h : Split S way marker received total n at) where
  abbrev before : List Entry
  before = between received at S

  pub marked_told : (before ++ marker_if marker) ++ between at total S ≡ with_marker_if marker n way
  marked_told = rw (h.here, ← h.under_way_lem) (go marker)
    where
      go : (m : Bool) → let x : ℕ = cond m (received + (total - received - n)) total in
          (between received x S ++ marker_if m) ++ between x total S ≡ with_marker_if m n (drop received S)
      go true = split_there S received total n h.all
      go false = split_nowhere S received total n h.all

  pub whole_fits : length ((before ++ marker_if marker) ++ between at total S) ≤ 8
  whole_fits = rw marked_told h.fits

  pub ahead_fits : length before + cond marker 1 0 ≤ 8
  ahead_fits =
      omega (
        arith,
        whole_fits,
        length-append (before ++ marker_if marker) (between at total S),
        length-append before (marker_if marker),
        single marker,
      )
    where
      single : (m : Bool) → length (marker_if m) ≡ cond m 1 0
      single true = refl
      single false = refl

-- The sends and receives that the histories tell: what is counted of them says where the entries are pushed.
module _ {T : Topology} {past : Past} {b : Histories} {t marker : Bool} {c p q : ℕ}
    (h : Here T past b t marker c) (ep : p ≡ sender T c) (eq : q ≡ receiver T c) where
  abbrev S : List Entry
  S = sent_by t past b p c (get_or b.counts p 0)

  abbrev way : List Entry
  way = under_way T t (history_seen (deed_at past) b) c

  same_sends : S
      ≡ sends t (mark_of (mark_in b p)) c 0
      (tabulate (get_or b.counts p 0) (λ k. event_of (deed_at past (place_in b p k))))
  same_sends =
      sent_are t past b p c (get_or b.counts p 0)

  pub split_by : {received total n at : ℕ}
      → received ≡ length (on_events (deed_at past) b q false c (get_or b.counts q 0))
      → total ≡ length (on_events (deed_at past) b p true c (get_or b.counts p 0))
      → n ≡ behind c (past_of past) → at ≡ cond marker (received + (total - received - n)) total
      → Split S way marker received total (behind c (past_of past)) at
  unfolding on_events under_way history_seen
  split_by r a is e =
      record {
        all = a ∙ sym (sends_length t c (mark_of (mark_in b p)) 0 _) ∙ ap length (sym same_sends);
        under_way_lem = rw (r, ← ep, ← eq, same_sends);
        here = rw is at e;
        fits = h.fits;
      }
