-- One more event in a history, as the code enters it: the arrays become those of the histories with the event.
use Prim.Native.Nat.{ℕ, ◌+◌, ◌<◌, ◌≤◌}
use mathlib.Core.Path.{◌≡◌, sym, ap, ap₂, fun_ext, ◌∙◌}
use mathlib.Core.List.{List, [], ◌∷◌, ◌++◌}
use lib.ListN.{length, get_or, set}
use lib.Seq.{get_or-set_same, get_or-set_other}
use native.Mathlib.Omega.{arith}
use Rattle.model.specs.Notation.{upd, tabulate}
use Rattle.model.specs.History.{Event, add_event}
use Rattle.model.proofs.laws.Functions.{by_index, upd_same, upd_other}
use Rattle.model.proofs.laws.Lists.{tabulate_more, tabulate_cong}
use Rattle.account.specs.declared.Deed.{Deed}
use Rattle.slow.specs.declared.events.Histories.{Histories}
use Rattle.slow.specs.Seen.{event_of, place_in, history_seen}
use Rattle.slow.specs.Within.{Rows, Few, LinesWithin, MarksWithin}
use Rattle.slow.specs.Seen.{Becomes}

module _ (b : Histories) (p i : ℕ) (lp : p < length b.counts) (le : p < length b.entries)
    (few : get_or b.counts p 0 < length (get_or b.entries p [])) where
  abbrev n : ℕ
  n = get_or b.counts p 0

  abbrev row : List ℕ
  row = set (get_or b.entries p []) n i

  abbrev entries : List (List ℕ)
  entries = set b.entries p row

  abbrev counts : List ℕ
  counts = set b.counts p (n + 1)

  abbrev Raised : ℕ → Type 0
  Raised q = get_or counts q 0 ≤ get_or b.counts q 0 + 1

  raised : (q : ℕ) → Raised q
  raised =
      by_index Raised p
      (let e = get_or-set_same b.counts p (n + 1) 0 lp in omega (arith, e))
      (λ q d. let e = get_or-set_other b.counts p q (n + 1) 0 (λ z. d (sym z)) in omega (arith, e))

  module _ (f : ℕ → Deed) where
    abbrev old : ℕ → ℕ → Event
    old q k = event_of (f (place_in b q k))

    abbrev new : ℕ → ℕ → Event
    new q k = event_of (f (get_or (get_or entries q []) k 0))

    abbrev own : ℕ → Event
    own k = event_of (f (get_or row k 0))

    abbrev held : List ℕ → ℕ → Event
    held ks k = event_of (f (get_or ks k 0))

    own_is : new p ≡ own
    own_is = ap held (get_or-set_same b.entries p row [] le)

    other_is : (q : ℕ) → (p ≡ q → ⊥) → new q ≡ old q
    other_is q d = ap held (get_or-set_other b.entries p q row [] (λ z. d (sym z)))

    abbrev before : ℕ → List Event
    before q = tabulate (get_or b.counts q 0) (old q)

    abbrev after : List Event
    after = before p ++ (event_of (f i) ∷ [])

    entered : (q : ℕ) → tabulate (get_or counts q 0) (new q) ≡ upd before p after q
    entered =
        by_index (λ q. tabulate (get_or counts q 0) (new q) ≡ upd before p after q) p
        (ap₂ tabulate (get_or-set_same b.counts p (n + 1) 0 lp) own_is
        ∙ tabulate_more n own
        ∙ ap₂ (λ (l : List Event) (x : Event). l ++ (x ∷ []))
        (tabulate_cong n own (old p)
        (λ k m. ap (λ (x : ℕ). event_of (f x)) (get_or-set_other (get_or b.entries p []) n k i 0 (λ z. omega arith))))
        (ap (λ (x : ℕ). event_of (f x)) (get_or-set_same (get_or b.entries p []) n i 0 few))
        ∙ sym (upd_same before p after))
        (λ q d. ap₂ tabulate (get_or-set_other b.counts p q (n + 1) 0 (λ z. d (sym z))) (other_is q d)
        ∙ sym (upd_other before p q after d))

  pub adds : {rows : Rows entries} {room : Few counts} {line : LinesWithin b.lines counts}
      → {mark : MarksWithin b.marks counts}
      → Becomes b (λ f h. add_event p (event_of (f i)) h)
      (record {
        entries = entries;
        counts = counts;
        lines = b.lines;
        marks = b.marks;
        rows = rows;
        room = room;
        line = line;
        mark = mark;
      })
  unfolding history_seen add_event
  adds =
      record {
        seen = λ f j.
            record {
              events = fun_ext (entered f) j;
              line = (history_seen f b).line;
              mark = (history_seen f b).mark;
            };
        grown = raised;
      }
