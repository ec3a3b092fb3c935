-- What theorems beside demand 3 cite of the invariant: facts about states and histories that know nothing of how it is
-- made up. Nothing outside `line` looks into the invariant's records but through these.
use Prim.Native.Nat.{ℕ, ◌<◌, ◌≤◌}
use mathlib.Core.Path.{◌≡◌, refl}
use mathlib.Core.Bool.{Bool, true, false}
use mathlib.Core.List.{List, ◌∷◌, ◌++◌}
use mathlib.Core.Option.{Option, some}
use lib.ListN.{length}
use Rattle.model.specs.declared.Phase.TheVariants.{Logical}
use Rattle.model.specs.declared.Entry.{Entry}
use Rattle.model.specs.declared.Entry.TheVariants.{Marker}
use Rattle.model.specs.Topology.{sender, receiver}
use Rattle.model.specs.Channel.{bodies}
use Rattle.model.specs.Layout.{store_cells}
use Rattle.model.specs.State.{GlobalState}
use Rattle.model.specs.History.{History, sent, received, bodies_on}
use Rattle.model.proofs.laws.Tests.{true_is_not_false}
use Rattle.model.proofs.laws.HistoryLaws.{Marked, unmarked, marked}
use Rattle.model.proofs.line.Values.{book_of, seen_of}
use Rattle.model.proofs.line.ChannelState.{open_at_marker}
use Rattle.model.proofs.line.Invariant.{Inv}
use Rattle.model.proofs.line.Phases.{process_in, channel_in}

pub record Facts (s : GlobalState) (st : List ℕ) (h : History) : Type 0 where
  pub cells : store_cells ≤ length st
  -- channels now: what was sent was received or is on it
  pub channels : (c : ℕ) → c < s.topology.channels
      → bodies_on sent c (h.events (sender s.topology c))
      ≡ bodies_on received c (h.events (receiver s.topology c)) ++ bodies (s.channel c)
  -- in the logical phase: a process that has its logical checkpoint has the round's mark in its history
  pub marks : s.round.phase ≡ Logical → (p : ℕ) → p < s.topology.processes → s.progress.logical p ≡ true
      → (m : ℕ) × (h.mark p ≡ some m)
  -- and a channel whose first entry is a marker isn't closed
  pub unclosed : s.round.phase ≡ Logical → (c : ℕ) → c < s.topology.channels → {es : List Entry}
      → s.channel c ≡ Marker ∷ es → s.progress.closed c ≡ false

mark_there : {n : ℕ} {x : Bool} {m : Option ℕ} → Marked n x m → x ≡ true → (k : ℕ) × (m ≡ some k)
mark_there unmarked e = true_is_not_false e refl
mark_there (marked {m} l) e = (m, refl)

pub facts : {s : GlobalState} {st : List ℕ} {h : History} → Inv s st h → Facts s st h
unfolding book_of seen_of
facts i =
    record {
      cells = i.sized.cells;
      channels = λ c l. (i.channels c l).now;
      marks = λ e p l logical. mark_there (process_in i e p l).round.mark logical;
      unclosed = λ e c l is. (open_at_marker (rw is at (channel_in i e c l).round.balanced)).1;
    }
