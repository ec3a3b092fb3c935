-- Laws of the whole of a session: the plan is refused, or the requests are served from what initialize leaves, and the
-- last lines printed.
use Prim.Native.Nat.{ℕ, ◌+◌, ◌*◌, ◌≤◌}
use mathlib.Core.Path.{◌≡◌}
use Rattle.std.proofs.Common.{rules}
use Rattle.std.specs.Prelude.{Result, Ok, Err, IsOk}
use mathlib.Core.List.{List}
use mathlib.Core.Option.{none, some, or_else}
use lib.ListN.{length, take, drop, length-take, length-drop}
use borrow.Author.Tests.{le-ltb}
use native.Mathlib.Omega.{arith}
use Rattle.model.specs.declared.Refusal.{Refusal}
use Rattle.model.specs.declared.State.{State}
use Rattle.model.specs.declared.Topology.{Topology}
use Rattle.model.specs.Check.{first_refusal}
use Rattle.model.specs.Topology.{topology_refusal}
use Rattle.model.specs.Layout.{store_cells}
use Rattle.model.specs.State.{GlobalState}
use Rattle.model.specs.Outcome.{refusal_number}
use Rattle.model.specs.Start.{startup_or, initialize_refusal, initialize}
use Rattle.model.specs.Program.{BudgetSource, given, input_bytes, plan_length, plan_refusal}
use Rattle.model.specs.Program.{session_from, session_of, played_of, played}
use Rattle.model.specs.Recover as recovery
use Rattle.plan.proofs.PlanReads.{Passes}
use Rattle.recovery.specs.Starts.{Starts}
use Rattle.report.specs.Appends.{Appends}
use Rattle.report.specs.Ending.{ending_text, ending_bytes}
use Rattle.report.specs.TextBytes.{plan_refused_bytes, cell_bytes}
use Rattle.report.specs.Text.{plan_refused_text, output_text}
use Rattle.report.specs.Changed.{start_store, changed_text}
use Rattle.report.proofs.Appending.{◌then◌, at_most}
use Rattle.report.proofs.Endings.{report_text, ending_fits}
use Rattle.session.specs.Drill.{drill_text}
use Rattle.session.specs.Output.{played_bytes, MayRun, Plays, plan_played}
use Rattle.session.specs.Serving.{Prints}

-- initialize isn't refused
module _ {T : Topology} {records store : List ℕ} (may : MayRun T records store) where
  pub starts : initialize_refusal T (length store) ≡ none
  unfolding recovery.initialize_refusal first_refusal or_else
  starts = rw (may.accepted, le-ltb (length store) store_cells may.cells)

  -- so the code's answer to it is a state
  pub begins : {left : List ℕ} (r : Result State Refusal) → Starts (initialize T store) r left → IsOk r
  unfolding initialize startup_or
  begins (Ok s) m = search rules
  begins (Err e) m = let none_is : some (refusal_number e) ≡ none = rw starts at m.start in cc

-- what is played of a plan that passed: its parts one after the other
module _ (source : BudgetSource) (T : Topology) (store records : List ℕ) {s : GlobalState} {started : List ℕ}
    (es : s ≡ (initialize T store).state) (eb : started ≡ (initialize T store).store)
    (few : length records ≤ input_bytes) where
  all_requests : session_of source T store records ≡ session_from source T 1 s started records
  unfolding session_of
  all_requests = rw (es, eb)

  pub plays_through : {last : GlobalState} {out left m a : List ℕ} {r q : ℕ}
      → Prints (length records) (session_from source T 1 s started records) out 0 m r last left
      → topology_refusal T ≡ none → Appends (ending_bytes T last) m r (ending_text T last) a q
      → Plays (plan_played source T store records) out a q left
  plays_through {last} p accepted ending =
      rw all_requests
      (record {
        text =
            rw (report_text T (session_from source T 1 s started records), ← p.state)
            (at_most (p.text then ending_fits T last 255 accepted (omega arith) ending) (omega arith));
        store = p.store;
      })

-- the input's first bytes, and what is played of them
module _ {bytes : List ℕ} (source : BudgetSource) (store input : List ℕ) (taken : bytes ≡ take input_bytes input)
    {out a left : List ℕ} {q : ℕ} where
  pub plays_refused : {r : ℕ} → plan_refusal bytes ≡ some r → left ≡ store
      → Appends plan_refused_bytes out 0 (plan_refused_text r) a q → Plays (played source store input) out a q left
  unfolding output_text played played_of
  plays_refused e s t = rw (← taken, e) (record { text = at_most t (omega arith); store = s })

  pub plays_read : {T : Topology} {records : List ℕ} → Passes bytes T → records ≡ drop (plan_length bytes) bytes
      → Plays (plan_played source T store records) out a q left → Plays (played source store input) out a q left
  unfolding played played_of
  plays_read p e x = rw (← taken, p.checks, ← p.plan, ← e) x

pub few_records : {bytes records : List ℕ} (input : List ℕ) → bytes ≡ take input_bytes input
    → records ≡ drop (plan_length bytes) bytes → length records ≤ input_bytes
few_records input e r = rw (r, e, length-drop, length-take) (omega arith)

-- `drill` plays on its starting store, and prints which cells differ from it
pub drill_played : {store out m a left : List ℕ} {r q : ℕ} (input : List ℕ) → store ≡ start_store
    → Plays (played given store input) out m r left → Appends (store_cells * cell_bytes) m r (changed_text left) a q
    → Appends (played_bytes + store_cells * cell_bytes) out 0 (drill_text input) a q
unfolding drill_text
drill_played input e p c = rw (← e, ← p.store) (p.text then c)
