-- With full current, a call is answered as the past tells: in any world that is known by its past (`answered_by`), and
-- after any calls from setup (`next_answer`), where the state that is told is sound (`told_sound`).
use Prim.Native.Nat.{ℕ, ◌≤◌}
use mathlib.Core.Path.{◌≡◌, sym, ap, ◌∙◌}
use mathlib.Core.Bool.{true}
use mathlib.Core.List.{List, []}
use mathlib.Core.Option.{none}
use lib.ListN.{length}
use borrow.Author.Tests.{le-ltb}
use Rattle.model.specs.declared.Topology.{Topology}
use Rattle.model.specs.declared.Record.{Record}
use Rattle.model.specs.declared.Record.TheVariants as records
use Rattle.model.specs.declared.Step.{Step}
use Rattle.model.specs.Check.{first_refusal}
use Rattle.model.specs.Topology.{topology_refusal}
use Rattle.model.specs.Layout.{store_cells}
use Rattle.model.specs.State.{GlobalState}
use Rattle.model.specs.Sound.{sound}
use Rattle.model.specs.Record.{fields_of}
use Rattle.model.specs.Write.{Answered, in_full}
use Rattle.model.specs.Step.{own_checks, step_checks, result_of, step, answer}
use Rattle.model.specs.Start.{initialize, recover_said, line_or}
use Rattle.model.specs.Program.{full_budget}
use Rattle.model.specs.ProgramsAreRuns.{call_with}
use Rattle.model.specs.Run.{Call, call, recovery, World, reply_to, run, trace, first_world}
use Rattle.model.proofs.line.RecoverKept.{topology_accepted}
use Rattle.model.proofs.FullCurrent.{full_current}
use Rattle.model.proofs.Reached.{reached}
use Rattle.model.proofs.Demand3.{recovers_in}
use Rattle.account.specs.Deeds.{Past, fields_for, onto}
use Rattle.account.specs.Standing.{state_of}
use Rattle.account.specs.Judging.{no_such, not_now, no_line_left, nothing_there, closed_before, no_room, log_full}
use Rattle.account.specs.Judging.{turned_down, says, writes_made, judge}
use Rattle.account.proofs.JudgedAlike.{judged_alike}
use Rattle.account.proofs.Known.{Known, known_run, known_state, known_first}
use Rattle.account.proofs.PastIsState.{past_is_state}

-- neither 15 nor 6, and the current lasts: the answer is the one that the step's own checks and its effect make
whole : (s : GlobalState) (x : Step) (store : List ℕ) → sound s ≡ true → store_cells ≤ length store
    → answer s x store full_budget ≡ in_full store (result_of (first_refusal (own_checks s x)) s x)
unfolding step step_checks first_refusal
whole s x store fit long =
    full_current.whole s x store full_budget full_current.full ∙ rw (fit, le-ltb (length store) store_cells long)

module _ (T : Topology) (good : topology_refusal T ≡ none) where
  -- nothing turns a restart down, and it says the last line finished
  recover_in : (w : World) (past : Past) → Known T w past → judge w.state recovery ≡ reply_to T w recovery
  unfolding reply_to recover_said line_or judge fields_for fields_of turned_down no_such not_now no_line_left
      nothing_there closed_before no_room log_full says writes_made
  recover_in w past k = let r = recovers_in T w good k.inv in rw (r.accepted, r.line, ← k.inv.line)

  in_state_lem : (w : World) (past : Past) → Known T w past → sound w.state ≡ true → (content : Record)
      → judge w.state (call_with full_budget content) ≡ reply_to T w (call_with full_budget content)
  unfolding reply_to call_with judge
  in_state_lem w past k fit (records.Call x) =
      let s = judged_alike w.state x full_budget in
      let a = whole w.state x w.store fit k.inv.holds.sized.cells in
      let said = s.outcome ∙ ap (λ (y : Answered). y.outcome) (sym a) in
      let made = s.made ∙ ap (λ (y : Answered). y.made) (sym a) in
      λ i. record { call = call x full_budget; outcome = said i; made = made i }
  in_state_lem w past k fit records.Recover = recover_in w past k

  pub answered_by : (w : World) (past : Past) → Known T w past → sound w.state ≡ true → (content : Record)
      → judge (state_of T past) (call_with full_budget content) ≡ reply_to T w (call_with full_budget content)
  answered_by w past k fit content = rw (known_state T good w past k) (in_state_lem w past k fit content)

pub told_sound : (T : Topology) (store : List ℕ) → (initialize T store).refusal ≡ none → (calls : List Call)
    → sound (state_of T (onto [] (trace T (first_world T store) calls))) ≡ true
told_sound T store ready calls = rw (past_is_state T store ready calls) (reached T store ready calls).sound

pub next_answer : (T : Topology) (store : List ℕ) → (initialize T store).refusal ≡ none → (calls : List Call)
    (content : Record)
    → judge (state_of T (onto [] (trace T (first_world T store) calls))) (call_with full_budget content)
    ≡ reply_to T (run T (first_world T store) calls) (call_with full_budget content)
next_answer T store ready calls content =
    let good = topology_accepted T store ready in
    answered_by T good (run T (first_world T store) calls) (onto [] (trace T (first_world T store) calls))
    (known_run T good (first_world T store) [] (known_first T store ready) calls) (reached T store ready calls).sound
    content
