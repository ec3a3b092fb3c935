-- What the programs serve is a run (the statement is ProgramsAreRuns of specs/ProgramsAreRuns.antt): each request is
-- served as its call is answered, and by demand 3 every recover on the way says the number of accepted commits.
use Prim.Native.Nat.{ℕ, suc, ◌+◌, ◌≤◌}
use mathlib.Core.Path.{◌≡◌, refl, sym, ap, subst, ◌∙◌}
use mathlib.Core.Bool.{Bool}
use mathlib.Core.List.{List, [], ◌∷◌, ◌++◌, map}
use mathlib.Core.Option.{none, or_else}
use lib.ListN.{length, take, drop}
use borrow.Author.Tests.{le-ltb}
use native.Mathlib.Omega.{arith}
use Rattle.model.specs.declared.Topology.{Topology}
use Rattle.model.specs.Check.{first_refusal}
use Rattle.model.specs.Topology.{topology_refusal}
use Rattle.model.specs.Layout.{store_cells}
use Rattle.model.specs.Start.{initialize, recover_said, line_or}
use Rattle.model.specs.Program.{Request, Line, Session, line_then, broken_line}
use Rattle.model.specs.Program.{session, session_from, session_of, Readings, read_all, input_bytes}
use Rattle.model.specs.Program.{plan_of, plan_length, shape_refusal, plan_refusal}
use Rattle.model.specs.Run.{Call, call, recovery, World, reply_to, next, run, trace, first_world}
use Rattle.model.specs.ProgramsAreRuns.{call_of, reply_line, reply_lines, ToldLines, ProgramsAreRuns}
use Rattle.model.specs.Recover as recovery
use Rattle.model.proofs.laws.Lists.{or_else_none}
use Rattle.model.proofs.laws.Calls.{initialize_refusal_lem}
use Rattle.model.proofs.laws.CallLists.{served}
use Rattle.model.proofs.line.RecoverKept.{topology_accepted}
use Rattle.model.proofs.Demand3.{InvOf, recovers_in, call_keeps, end_holds}

module _ (T : Topology) where
  module _ (broken : Bool) where
    abbrev from : ℕ → World → List Request → Session
    from n w requests = session T broken n w.state w.store requests

    -- the first of these requests, and the others
    serves_on : (n : ℕ) (w : World) (r : Request) (rs : List Request)
        → from n w (r ∷ rs)
        ≡ line_then n
        (record {
          said = (reply_to T w (call_of r)).outcome;
          made = (reply_to T w (call_of r)).made;
          state = (next T w (call_of r)).state;
          store = (next T w (call_of r)).store;
        })
        (from (n + 1) (next T w (call_of r)) rs)
    unfolding session call_of
    serves_on n w r rs = rw (served T w r.budget r.content)

    lines_are : (n : ℕ) (w : World) (requests : List Request)
        → (from n w requests).lines
        ≡ reply_lines n (trace T w (map call_of requests)) ++ broken_line broken (n + length requests)
    unfolding session trace reply_lines line_then
    lines_are n w [] = let e : n + 0 ≡ n = omega arith in rw e
    lines_are n w (r ∷ rs) =
        let e : (n + 1) + length rs ≡ n + suc (length rs) = omega arith in
        ap (λ (s : Session). s.lines) (serves_on n w r rs)
        ∙ ap (λ (ls : List Line). reply_line n (reply_to T w (call_of r)) ∷ ls)
        (lines_are (n + 1) (next T w (call_of r)) rs
        ∙ ap (λ (m : ℕ). reply_lines (n + 1) (trace T (next T w (call_of r)) (map call_of rs))
        ++ broken_line broken m) e)

    state_is_lem : (n : ℕ) (w : World) (requests : List Request)
        → ((from n w requests).state ≡ (run T w (map call_of requests)).state)
        × ((from n w requests).store ≡ (run T w (map call_of requests)).store)
    unfolding session run line_then
    state_is_lem n w [] = (refl, refl)
    state_is_lem n w (r ∷ rs) =
        let after : World = run T (next T w (call_of r)) (map call_of rs) in
        subst (λ (q : Session). (q.state ≡ after.state) × (q.store ≡ after.store)) (sym (serves_on n w r rs))
        (state_is_lem (n + 1) (next T w (call_of r)) rs)

  -- what every recover says
  told : topology_refusal T ≡ none → (w : World) → InvOf T w → (calls : List Call)
      → ToldLines w.commits (trace T w calls)
  unfolding trace reply_to recover_said line_or next
  told good w i [] = tt
  told good w i (call x budget ∷ cs) =
      (tt, told good (next T w (call x budget)) (call_keeps T good w i (call x budget)) cs)
  told good w i (recovery ∷ cs) =
      let r = recovers_in T w good i in
      (rw (r.accepted, r.line), told good (next T w recovery) (call_keeps T good w i recovery) cs)

-- a plan that is not refused is accepted by initialize
plan_accepted : (bytes store : List ℕ) → store_cells ≤ length store → plan_refusal bytes ≡ none
    → (initialize (plan_of bytes) store).refusal ≡ none
unfolding plan_refusal recovery.initialize_refusal first_refusal or_else
plan_accepted bytes store long e =
    initialize_refusal_lem (plan_of bytes) store
    ∙ rw ((or_else_none (shape_refusal bytes) (topology_refusal (plan_of bytes)) e).1, le-ltb _ _ long)

pub programs_are_runs : ProgramsAreRuns
unfolding first_world run session_of session_from
programs_are_runs source store input long e =
    let bytes : List ℕ = take input_bytes input in
    let T : Topology = plan_of bytes in
    let records : List ℕ = drop (plan_length bytes) bytes in
    let all : Readings = read_all source (length records) records in
    let ready : (initialize T store).refusal ≡ none = plan_accepted bytes store long e in
    let w : World = first_world T store in
    let (state, left) = state_is_lem T all.broken 1 w all.requests in
    record {
      lines = lines_are T all.broken 1 w all.requests;
      recovers = told T (topology_accepted T store ready) w (end_holds T store ready []) (map call_of all.requests);
      state = state;
      left = left;
    }
