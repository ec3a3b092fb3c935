-- Demand 3 (its statement is Demand3 of specs/Demand3.antt): after an accepted initialize and any list of calls, a
-- recover is accepted and gives the state at the last recovery line. The invariant holds of every world that such a
-- list reaches (`end_holds`); the companion in Reached.antt rests on it too.
use Prim.Native.Nat.{ℕ}
use mathlib.Core.Path.{◌≡◌, refl, ap, subst, subst₂, ◌∙◌}
use mathlib.Core.List.{List, [], ◌∷◌}
use mathlib.Core.Option.{none}
use Rattle.model.specs.declared.Topology.{Topology}
use Rattle.model.specs.declared.Step.{Step}
use Rattle.model.specs.Topology.{topology_refusal}
use Rattle.model.specs.State.{idle_state}
use Rattle.model.specs.Start.{initialize, recover, recover_said, line_or, state_or}
use Rattle.model.specs.History.{on_recover}
use Rattle.model.specs.Run.{Call, call, recovery, World, next, run, first_world, reply_to, on_reply, on_call}
use Rattle.model.specs.Run.{state_after, store_after, commits_after, count_commit, is_commit}
use Rattle.model.specs.Demand3.{Recovered, RecoveredAfter, Demand3}
use Rattle.model.proofs.laws.Effects.{answer_follows}
use Rattle.model.proofs.line.Invariant.{Inv}
use Rattle.model.proofs.line.StepKept.{step_kept}
use Rattle.model.proofs.line.RecoverKept.{recovers, recover_kept, recovered_state, recovered_store}
use Rattle.model.proofs.line.RecoverKept.{topology_accepted}
use Rattle.model.proofs.line.RecoverKept.{initialized_topology, initialized_line, initialize_holds}

-- the invariant of a world: it is one of this topology, and its line is the number of accepted commits
pub record InvOf (T : Topology) (w : World) : Type 0 where
  pub topology : w.state.topology ≡ T
  pub line : w.state.round.line ≡ w.commits
  pub holds : Inv w.state w.store w.history

-- what a recover gives in such a world
pub recovers_in : (T : Topology) (w : World) → topology_refusal T ≡ none → InvOf T w → RecoveredAfter T w
recovers_in T w good i =
    subst₂ (λ (T' : Topology) (k : ℕ). topology_refusal T' ≡ none → Recovered T' (recover T' w.store)
    (on_recover w.history) k)
    i.topology i.line (λ ok. recovers w.state w.store w.history ok i.holds) good

-- a step, and a recover, by the topology that the state itself has
step_keeps : (w : World) (x : Step) (budget : ℕ) → InvOf w.state.topology w
    → InvOf w.state.topology (next w.state.topology w (call x budget))
unfolding next reply_to on_reply on_call state_after store_after commits_after
step_keeps w x budget i =
    let after = answer_follows w.state x w.store budget in
    record {
      topology = after.topology;
      line = after.line ∙ ap (commits_after (reply_to w.state.topology w (call x budget))) i.line;
      holds = step_kept w.state w.store w.history i.holds x budget;
    }

recover_keeps : (w : World) → topology_refusal w.state.topology ≡ none → InvOf w.state.topology w
    → InvOf w.state.topology (next w.state.topology w recovery)
unfolding next reply_to on_reply on_call state_after store_after commits_after count_commit is_commit recover_said
    line_or state_or idle_state
recover_keeps w good i =
    rw (
      (recovers w.state w.store w.history good i.holds).accepted,
      recovered_state w.state w.store w.history good i.holds,
      recovered_store w.state w.store w.history good i.holds,
    )
    (record {
      topology = refl;
      line = i.line;
      holds = recover_kept w.state w.store w.history good i.holds;
    })

module _ (T : Topology) (good : topology_refusal T ≡ none) where
  pub call_keeps : (w : World) → InvOf T w → (c : Call) → InvOf T (next T w c)
  call_keeps w i c =
      subst (λ (T' : Topology). topology_refusal T' ≡ none → InvOf T' w → InvOf T' (next T' w c)) i.topology (own c)
      good i
    where
      own : (c : Call) → topology_refusal w.state.topology ≡ none → InvOf w.state.topology w
          → InvOf w.state.topology (next w.state.topology w c)
      own (call x budget) ok j = step_keeps w x budget j
      own recovery ok j = recover_keeps w ok j

  run_keeps : (w : World) → InvOf T w → (calls : List Call) → InvOf T (run T w calls)
  unfolding run
  run_keeps w i [] = i
  run_keeps w i (c ∷ cs) = run_keeps (next T w c) (call_keeps w i c) cs

module _ (T : Topology) (store : List ℕ) (ready : (initialize T store).refusal ≡ none) (calls : List Call) where
  pub end_holds : InvOf T (run T (first_world T store) calls)
  unfolding first_world
  end_holds =
      run_keeps T (topology_accepted T store ready) (first_world T store)
      (record {
        topology = initialized_topology T store ready;
        line = initialized_line T store ready;
        holds = initialize_holds T store ready;
      })
      calls

pub demand_3 : Demand3
demand_3 T store ready calls =
    recovers_in T (run T (first_world T store) calls) (topology_accepted T store ready) (end_holds T store ready calls)
