-- Laws of the histories as the code holds them: each change of the arrays is a change of the histories.
use Prim.Native.Nat.{ℕ, zero, suc, ◌<◌, ◌≤◌}
use mathlib.Core.Path.{◌≡◌, refl, sym, ap, fun_ext, ◌∙◌}
use mathlib.Core.Bool.{true, false}
use mathlib.Core.List.{List, [], ◌∷◌, ◌++◌}
use mathlib.Core.Option.{some}
use Rattle.std.proofs.Common.{Option, None, Some}
use Rattle.std.specs.Option.{is_some, unwrap_or}
use lib.ListN.{length, get_or, set, take, replicate, length-append}
use lib.Seq.{take-append-le, take-length}
use native.Mathlib.Omega.{arith}
use Rattle.model.specs.Notation.{upd, tabulate}
use Rattle.model.specs.History.{History, new_history, mark_now, mark_unmarked, mark_or, no_marks}
use Rattle.model.specs.History.{on_commit, on_recover}
use Rattle.model.proofs.laws.Functions.{Indices, same, other, indices}
use Rattle.model.proofs.laws.Functions.{seen_set, seen_replicate}
use Rattle.model.proofs.laws.Lists.{tabulate_length}
use Rattle.account.specs.declared.Deed.{Deed}
use Rattle.slow.specs.declared.events.Histories.{Histories}
use Rattle.slow.specs.Seen.{event_of, mark_of, mark_in, has_mark_in, place_in, history_seen}
use Rattle.slow.specs.Within.{Rows, Few, LinesWithin, MarksWithin}
use Rattle.slow.specs.Seen.{Becomes, Starts, Finished}

-- the first m of n places
pub take_tabulate : {A : Type 0} (m n : ℕ) (f : ℕ → A) → m ≤ n → take m (tabulate n f) ≡ tabulate m f
unfolding tabulate
take_tabulate m zero f l = let e : m ≡ 0 = omega arith in rw e
take_tabulate {A} m (suc n) f l = go (indices m (suc n)) (λ k. take_tabulate m n f k)
  where
    all : List A
    all = tabulate n f ++ (f n ∷ [])

    long : length all ≡ suc n
    long = omega (arith, length-append (tabulate n f) (f n ∷ []), tabulate_length n f)

    go : Indices m (suc n) → (m ≤ n → take m (tabulate n f) ≡ tabulate m f) → take m all ≡ tabulate m f
    go (same e) ih = rw e (ap (λ (k : ℕ). take k all) (sym long) ∙ take-length all)
    go (other d) ih =
        let k : m ≤ n = omega (arith, d) in
        take-append-le m (tabulate n f) (f n ∷ []) (rw (tabulate_length n f) k) ∙ ih k

-- no process is marked
abbrev unmarked : List (Option ℕ)
unmarked = replicate 16 None

-- the first histories
abbrev no_entries : List (List ℕ)
no_entries = replicate 16 (replicate 256 0)

zero_at : (p : ℕ) → ◌≡◌ {A = ℕ} (get_or (replicate 16 0) p 0) 0
zero_at p = ap (λ (g : ℕ → ℕ). g p) (seen_replicate 16 0)

abbrev zeros : List ℕ
zeros = replicate 16 0

-- (here and below, whatever proofs the ghost fields have)
pub starts : {rows : Rows no_entries} {room : Few zeros} {line : LinesWithin zeros zeros}
    → {mark : MarksWithin unmarked zeros}
    → Starts
    (record {
      entries = no_entries;
      counts = zeros;
      lines = zeros;
      marks = unmarked;
      rows = rows;
      room = room;
      line = line;
      mark = mark;
    })
unfolding history_seen new_history tabulate
starts =
    record {
      seen = λ f j.
          record {
            events = λ p.
                tabulate (seen_replicate 16 0 j p) (λ k. event_of (f (get_or (get_or no_entries p []) k 0)));
            line = λ p. seen_replicate 16 0 j p;
            mark = λ p. mark_of (seen_replicate 16 None j p);
          };
      empty = zero_at;
    }

-- a change said otherwise
pub becomes_otherwise : {b r : Histories} {change said : (ℕ → Deed) → History → History} → Becomes b change r
    → ((f : ℕ → Deed) → change f (history_seen f b) ≡ said f (history_seen f b)) → Becomes b said r
becomes_otherwise m e = record { seen = λ f. m.seen f ∙ e f; grown = m.grown }

-- a mark that there is stays, and one that there isn't is set
marked_stays : (h : History) (p : ℕ) (o : Option ℕ) → is_some o ≡ true → mark_unmarked (mark_of o) p h ≡ h
unfolding mark_unmarked
marked_stays h p None e = cc
marked_stays h p (Some m) e = refl

unmarked_gets : (h : History) (p : ℕ) (o : Option ℕ) → is_some o ≡ false
    → mark_unmarked (mark_of o) p h ≡ mark_now p h
unfolding mark_unmarked
unmarked_gets h p None e = refl
unmarked_gets h p (Some m) e = cc

module _ (f : ℕ → Deed) (b : Histories) (p : ℕ) where
  pub stays_marked : has_mark_in b p ≡ true
      → mark_unmarked ((history_seen f b).mark p) p (history_seen f b) ≡ history_seen f b
  unfolding history_seen
  stays_marked e = marked_stays (history_seen f b) p (mark_in b p) e

  pub gets_marked : has_mark_in b p ≡ false
      → mark_unmarked ((history_seen f b).mark p) p (history_seen f b) ≡ mark_now p (history_seen f b)
  unfolding history_seen
  gets_marked e = unmarked_gets (history_seen f b) p (mark_in b p) e

module _ (b : Histories) where
  pub same_histories : (change : (ℕ → Deed) → History → History)
      → ((f : ℕ → Deed) → history_seen f b ≡ change f (history_seen f b)) → Becomes b change b
  same_histories change e = record { seen = e; grown = λ p. omega arith }

  -- no marks
  pub forgets : {rows : Rows b.entries} {room : Few b.counts} {line : LinesWithin b.lines b.counts}
      → {mark : MarksWithin unmarked b.counts}
      → Becomes b (λ f h. no_marks h)
      (record {
        entries = b.entries;
        counts = b.counts;
        lines = b.lines;
        marks = unmarked;
        rows = rows;
        room = room;
        line = line;
        mark = mark;
      })
  unfolding history_seen no_marks
  forgets =
      record {
        seen = λ f j.
            record {
              events = (history_seen f b).events;
              line = (history_seen f b).line;
              mark = λ p. mark_of (seen_replicate 16 None j p);
            };
        grown = λ q. omega arith;
      }

  -- shortened to the line
  pub shortens : {rows : Rows b.entries} {room : Few b.lines} {line : LinesWithin b.lines b.lines}
      → {mark : MarksWithin unmarked b.lines}
      → Becomes b (λ f h. on_recover h)
      (record {
        entries = b.entries;
        counts = b.lines;
        lines = b.lines;
        marks = unmarked;
        rows = rows;
        room = room;
        line = line;
        mark = mark;
      })
  unfolding history_seen on_recover
  shortens =
      record {
        seen = λ f j.
            record {
              events = fun_ext (λ p. sym (take_tabulate _ _ (λ k. event_of (f (place_in b p k))) (b.line p))) j;
              line = (history_seen f b).line;
              mark = λ p. mark_of (seen_replicate 16 None j p);
            };
        grown = λ q. omega (arith, b.line q);
      }

  -- the marks become the line
  module _ (lines : List ℕ) (k : Finished b.lines b.marks lines) where
    said : (o : Option ℕ) (place : ℕ) → unwrap_or o place ≡ mark_or (mark_of o) place
    unfolding mark_or
    said None place = refl
    said (Some m) place = refl

    pub finishes : {rows : Rows b.entries} {room : Few b.counts} {line : LinesWithin lines b.counts}
        → {mark : MarksWithin unmarked b.counts}
        → Becomes b (λ f h. on_commit h)
        (record {
          entries = b.entries;
          counts = b.counts;
          lines = lines;
          marks = unmarked;
          rows = rows;
          room = room;
          line = line;
          mark = mark;
        })
    unfolding history_seen on_commit
    finishes =
        record {
          seen = λ f j.
              record {
                events = (history_seen f b).events;
                line = fun_ext (λ q. k.at q ∙ said (mark_in b q) (get_or b.lines q 0)) j;
                mark = λ p. mark_of (seen_replicate 16 None j p);
              };
          grown = λ q. omega arith;
        }

  -- p is marked
  module _ (p : ℕ) (l : p < length b.marks) where
    abbrev marks : List (Option ℕ)
    marks = set b.marks p (Some (get_or b.counts p 0))

    pub marks_it : {rows : Rows b.entries} {room : Few b.counts} {line : LinesWithin b.lines b.counts}
        → {mark : MarksWithin marks b.counts}
        → Becomes b (λ f h. mark_now p h)
        (record {
          entries = b.entries;
          counts = b.counts;
          lines = b.lines;
          marks = marks;
          rows = rows;
          room = room;
          line = line;
          mark = mark;
        })
    unfolding history_seen mark_now
    marks_it =
        record {
          seen = λ f j.
              record { events = (history_seen f b).events; line = (history_seen f b).line; mark = marked_now f j };
          grown = λ q. omega arith;
        }
      where
        n : ℕ
        n = get_or b.counts p 0

        marked_now : (f : ℕ → Deed)
            → (λ (q : ℕ). mark_of (get_or marks q None))
            ≡ upd (λ (q : ℕ). mark_of (mark_in b q)) p
            (some (length (tabulate n (λ k. event_of (f (place_in b p k))))))
        marked_now f =
            seen_set mark_of b.marks p (Some n) None l
            ∙ rw (tabulate_length n (λ k. event_of (f (place_in b p k))))
