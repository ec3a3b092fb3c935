-- Laws of feeding the histories: how many sends and receives a history has, what was sent after a mark, and what a deed
-- does.
use Prim.Native.Nat.{ℕ, zero, suc, ◌+◌, ◌<◌, ◌≤◌}
use mathlib.Core.Path.{◌≡◌, refl, sym, ap, ◌∙◌}
use mathlib.Core.Bool.{Bool, true, false, cond, ◌&&◌, ◌||◌, beq}
use mathlib.Core.List.{List, [], ◌∷◌, ◌++◌, map, map-append}
use Rattle.std.proofs.Common.{None, Some, add-one}
use Rattle.std.specs.List.{filter}
use Rattle.std.proofs.lemmas.List.{take_more}
use Rattle.std.proofs.lemmas.List.Elements.{filter-append}
use Rattle.std.proofs.lemmas.List.Sums.{length-filter, count_by-le-length}
use lib.ListN.{length-map, length-take}
use mathlib.Core.Option.{none}
use lib.ListN.{length, get_or, take, length-append}
use lib.Dec.{eqb, leb}
use borrow.Author.Tests.{le-leb, lt-leb, leb-true, leb-false, eqb-true}
use native.Mathlib.Omega.{arith}
use Rattle.model.specs.declared.Topology.{Topology}
use Rattle.model.specs.Notation.{tabulate}
use Rattle.model.specs.Topology.{sender, receiver, topology_refusal}
use Rattle.model.specs.History.{Event, History, Direction, sent, received, same_direction}
use Rattle.model.specs.History.{is_on, bodies_on, place_of_send}
use Rattle.model.specs.History.{is_after, looked_at, sent_after_mark, add_event, mark_unmarked, on_message}
use Rattle.model.proofs.laws.Tests.{Tested, holds, fails, test}
use Rattle.model.proofs.laws.Functions.{Indices, same, other, indices}
use Rattle.model.proofs.laws.Lists.{tabulate_more, tabulate_length}
use Rattle.model.proofs.laws.TopologyLaws.{accepted_sizes, sender_planned, receiver_planned}
use Rattle.model.proofs.laws.HistoryLaws.{sees, unseen, place_early}
use Rattle.account.specs.declared.Deed.{Deed}
use Rattle.slow.specs.declared.deeds.Past.{Past}
use Rattle.slow.specs.declared.events.Histories.{Histories}
use Rattle.account.specs.Deeds.{did}
use Rattle.account.specs.Contents.{on_receipt}
use Rattle.slow.specs.Kept.{latest, deed_at}
use Rattle.slow.specs.Seen.{event_of, mark_in, place_in, history_seen, on_events, Fits, AllFit}
use Rattle.slow.specs.Seen.{Becomes, Follows}
use Rattle.slow.proofs.Changes.{take_tabulate}

directed : (s t : Bool) → same_direction (cond s sent received) (cond t sent received) ≡ beq t s
unfolding same_direction
directed true true = refl
directed true false = refl
directed false true = refl
directed false false = refl

is_on_lem : (sends : Bool) (c : ℕ) (d : Deed)
    → is_on (cond sends sent received) c (event_of d) ≡ (beq (did 1 d) sends && eqb c d.channel)
unfolding is_on
is_on_lem sends c d = ap (λ (x : Bool). x && eqb c d.channel) (directed sends (did 1 d))

-- one event more of a history
module _ (f : ℕ → Deed) (b : Histories) (p : ℕ) (sends : Bool) (c k : ℕ) where
  abbrev direction : Direction
  direction = cond sends sent received

  abbrev event : ℕ → Event
  event i = event_of (f (place_in b p i))

  abbrev so_far : List ℕ
  so_far = bodies_on direction c (tabulate k event)

  pub on_events_more :
      cond (beq (did 1 (f (place_in b p k))) sends && eqb c (f (place_in b p k)).channel)
      (length (on_events f b p sends c k) + 1) (length (on_events f b p sends c k))
      ≡ length (on_events f b p sends c (k + 1))
  unfolding on_events
  on_events_more =
      rw (← is_on_lem sends c (f (place_in b p k)), tabulate_more k event) (go (test (is_on direction c (event k))))
    where
      go : Tested (is_on direction c (event k))
          → cond (is_on direction c (event k)) (length so_far + 1) (length so_far)
          ≡ length (bodies_on direction c (tabulate k event ++ (event k ∷ [])))
      go (holds e) =
          rw (e, sees direction c (tabulate k event) (event k) e) (sym (length-append so_far ((event k).body ∷ [])))
      go (fails e) = rw (e, unseen direction c (tabulate k event) (event k) e)

-- those that the code counts
module _ (f : ℕ → Deed) (b : Histories) (p : ℕ) (sends : Bool) (c : ℕ) where
  abbrev counts : Deed → Bool
  counts d = beq (did 1 d) sends && eqb c d.channel

  abbrev row : List ℕ
  row = get_or b.entries p []

  pub events_within : (n : ℕ) → length (filter counts (map f (take n row))) ≤ n
  events_within n =
      omega (
        arith,
        length-filter counts (map f (take n row)),
        count_by-le-length counts (map f (take n row)),
        length-map (take n row) f,
        length-take n row,
      )

  pub events_counted : (n : ℕ) → n ≤ length row
      → length (filter counts (map f (take n row))) ≡ length (on_events f b p sends c n)
  unfolding on_events tabulate bodies_on
  events_counted zero l = refl
  events_counted (suc n) l =
      rw (
        ← add-one n,
        take_more row n 0 (omega arith),
        map-append f (take n row) (get_or row n 0 ∷ []),
        filter-append counts (map f (take n row)) (f (get_or row n 0) ∷ []),
        length-append (filter counts (map f (take n row))) (filter counts (f (get_or row n 0) ∷ [])),
        events_counted n (omega arith),
      )
      (go (counts (f (place_in b p n))) ∙ on_events_more f b p sends c n
      ∙ ap (λ (m : ℕ). length (on_events f b p sends c m)) (add-one n))
    where
      so_many : ℕ
      so_many = length (on_events f b p sends c n)

      go : (t : Bool) → so_many + length (cond t (f (place_in b p n) ∷ []) []) ≡ cond t (so_many + 1) so_many
      go true = refl
      go false = omega arith

-- With at most n sends on c in the first m events, the one that has n before it, or the end, stands at m or later.
abbrev Late : ℕ → ℕ → ℕ → List Event → Type 0
Late c m n es = m ≤ length es → length (bodies_on sent c (take m es)) ≤ n → m ≤ place_of_send c n es

place_late : (c m n : ℕ) (es : List Event) → Late c m n es
unfolding bodies_on place_of_send
place_late c zero n es l p = omega arith
place_late c (suc m) n [] l p = absurd (omega arith)
place_late c (suc m) zero (e ∷ es) l p = go (test (is_on sent c e)) (place_late c m zero es)
  where
    go : Tested (is_on sent c e) → Late c m zero es → suc m ≤ place_of_send c zero (e ∷ es)
    go (holds t) ih = absurd (omega (arith, rw t at p))
    go (fails t) ih = rw t (omega (arith, ih (omega arith) (rw t at p)))
place_late c (suc m) (suc n) (e ∷ es) l p =
    go (test (is_on sent c e)) (place_late c m n es) (place_late c m (suc n) es)
  where
    go : Tested (is_on sent c e) → Late c m n es → Late c m (suc n) es → suc m ≤ place_of_send c (suc n) (e ∷ es)
    go (holds t) fewer ih = rw t (omega (arith, fewer (omega arith) (omega (arith, rw t at p))))
    go (fails t) fewer ih = rw t (omega (arith, ih (omega arith) (rw t at p)))

after_place : (c m n : ℕ) (es : List Event) → m ≤ length es
    → leb (length (bodies_on sent c (take m es))) n ≡ leb m (place_of_send c n es)
after_place c m n es l = go (test (leb (length (bodies_on sent c (take m es))) n))
  where
    go : Tested (leb (length (bodies_on sent c (take m es))) n)
        → leb (length (bodies_on sent c (take m es))) n ≡ leb m (place_of_send c n es)
    go (holds e) = e ∙ sym (le-leb m (place_of_send c n es) (place_late c m n es l (leb-true _ n e)))
    go (fails e) = e ∙ sym (lt-leb m (place_of_send c n es) (place_early c m n es (leb-false _ n e)))

-- What the code tells of the next message of a channel: no mark, or the sends before the mark against the receives.
module _ (T : Topology) (f : ℕ → Deed) (b : Histories) (c : ℕ) where
  abbrev p : ℕ
  p = sender T c

  abbrev q : ℕ
  q = receiver T c

  pub not_after : mark_in b p ≡ None → false ≡ sent_after_mark T c (history_seen f b)
  unfolding sent_after_mark history_seen is_after
  not_after e = rw e

  pub tells_after : (m : ℕ) → mark_in b p ≡ Some m
      → leb (length (on_events f b p true c m)) (length (on_events f b q false c (get_or b.counts q 0)))
      ≡ sent_after_mark T c (history_seen f b)
  unfolding sent_after_mark looked_at history_seen is_after on_events
  tells_after m e =
      let count : ℕ = get_or b.counts p 0 in
      let event : ℕ → Event = λ k. event_of (f (place_in b p k)) in
      let n : ℕ = length (bodies_on received c (tabulate (get_or b.counts q 0) (λ k. event_of (f (place_in b q k))))) in
      let within : m ≤ count = b.mark p m e in
      rw (e, ← take_tabulate m count event within)
      (after_place c m n (tabulate count event) (rw (tabulate_length count event) within))

-- the ends of a channel that is planned
pub ends_fit : (T : Topology) → topology_refusal T ≡ none → (c : ℕ) → c < T.channels
    → (sender T c < 16) × (receiver T c < 16)
ends_fit T good c l =
    let n = (accepted_sizes T good).processes in
    (omega (arith, n, sender_planned T good c l), omega (arith, n, receiver_planned T good c l))

not_send : (d : Deed) → did 2 d ≡ true → did 1 d ≡ false
not_send d e = rw (eqb-true d.kind 2 e)

-- what a change of the histories makes of those of this past
pub follows : {past : Past} {b r : Histories} {change : (ℕ → Deed) → History → History} {now : History → History}
    → Becomes b change r → change (deed_at past) (history_seen (deed_at past) b) ≡ now (history_seen (deed_at past) b)
    → Follows past b now r
follows h e = record { seen = h.seen _ ∙ e; grown = h.grown }

-- a receive of a body: the receiver is marked first, if it is to be, then it enters
pub receives_body : (T : Topology) (d : Deed) (h now after : History) (at : ℕ) (late asked : Bool) → did 2 d ≡ true
    → d.marker ≡ false → at ≡ receiver T d.channel → late ≡ sent_after_mark T d.channel h
    → asked ≡ (d.marker || late) → now ≡ cond asked (mark_unmarked (h.mark at) at h) h
    → after ≡ add_event at (event_of d) now → after ≡ on_receipt T d h
unfolding on_receipt on_message
receives_body T d h now after at late asked k m r l y s e = e ∙ rw (s, y, m, r, l, not_send d k)

-- one of the deeds that fit
pub fit_at : (T : Topology) (n i : ℕ) (f : ℕ → Deed) → i < n → AllFit T (latest n f) → Fits T (f i)
unfolding latest
fit_at T zero i f l a = absurd (omega arith)
fit_at T (suc n) i f l a = go (indices i n) (λ m. fit_at T n i f m a.1)
  where
    go : Indices i n → (i < n → Fits T (f i)) → Fits T (f i)
    go (same e) ih = rw e a.0
    go (other z) ih = ih (omega (arith, z))
