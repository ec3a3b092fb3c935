-- A run of the code is a list of calls of the definitions (`replayed`), so demand 3 and its companion hold of it.
use Rattle.std.proofs.Common.{◌≡◌, ℕ, List, [], ◌∷◌, ◌++◌, Result, Ok, Err, sym, ap, ◌∙◌, subst}
use mathlib.Core.Option.{none}
use Rattle.model.specs.declared.Topology.{Topology}
use Rattle.model.specs.declared.State.{State}
use Rattle.model.specs.declared.Step.{Step}
use Rattle.model.specs.declared.Answer.{Answer}
use Rattle.model.specs.declared.Refusal.{Refusal}
use Rattle.model.specs.Outcome.{refusal_of}
use Rattle.model.specs.State.{view}
use Rattle.model.specs.Start.{Startup, initialize, recover, recover_said}
use Rattle.model.specs.Start as start
use Rattle.model.specs.History.{History, new_history, on_recover}
use Rattle.model.specs.Run.{Call, call, recovery, World, next, run, first_world, reply_to, on_reply, commits_after}
use Rattle.model.specs.Run.{state_after, store_after}
use Rattle.model.specs.Demand3.{Recovered, RecoveredAfter}
use Rattle.model.specs.Reached.{Reached}
use Rattle.model.proofs.Trace.{run_append}
use Rattle.model.proofs.Demand3.{demand_3}
use Rattle.model.proofs.Reached.{reached}
use Rattle.engine.specs.Answers.{Answers}
use Rattle.recovery.specs.Starts.{startup_of, Starts}
use Rattle.engine.specs.Runs.{Runs, initialized, stepped, recovered, step_reply, recover_reply, given_or}
use Rattle.engine.specs.Runs.{Demand3OfCode, CompanionOfCode}

-- the same world, reached by calls of the definitions
pub record Replayed (T : Topology) (w : World) : Type 0 where
  pub before : List ℕ
  pub ready : (initialize T before).refusal ≡ none
  pub calls : List Call
  pub same : run T (first_world T before) calls ≡ w

abbrev world_of : State → List ℕ → History → ℕ → World
world_of s store h commits = record { state = view s; store = store; history = h; commits = commits }

module _ {T : Topology} {w : World} (i : Replayed T w) where
  -- one call more
  more : (c : Call) → Replayed T (next T w c)
  unfolding run
  more c =
      record {
        before = i.before;
        ready = i.ready;
        calls = i.calls ++ (c ∷ []);
        same = run_append T (first_world T i.before) i.calls (c ∷ []) ∙ ap (λ (x : World). next T x c) i.same;
      }

  -- demand 3 and its companion, in that world
  recovers : RecoveredAfter T w
  recovers = subst (λ (x : World). RecoveredAfter T x) i.same (demand_3 T i.before i.ready i.calls)

  fares : Reached T w
  fares = subst (λ (x : World). Reached T x) i.same (reached T i.before i.ready i.calls)

module _ (T : Topology) where
  -- an initialize, a step and a recover that meet their promises do what the definitions' do
  started : (before after : List ℕ) (s : State) → Starts (initialize T before) (Ok s) after
      → Replayed T (world_of s after new_history 0)
  unfolding run first_world
  started before after s meets =
      record {
        before = before;
        ready = sym meets.start;
        calls = [];
        same = rw (meets.state, meets.store);
      }

  module _ (s : State) {store : List ℕ} {h : History} {commits : ℕ} (i : Replayed T (world_of s store h commits)) where
    after_step : (x : Step) (budget : ℕ) (r : Answer) (after : List ℕ) → Answers s x store budget r after
        → let reply = step_reply x budget r in
        Replayed T (world_of r.state after (on_reply T reply h) (commits_after reply commits))
    unfolding next reply_to state_after store_after
    after_step x budget r after meets =
        subst (Replayed T) (rw (meets.state, meets.store, meets.outcome, meets.made)) (more i (call x budget))

    after_recover : (r : Result State Refusal) → Starts (recover T store) r store
        → let reply = recover_reply r store in
        Replayed T (world_of (start.state_or (refusal_of r) (given_or r s) s) store (on_reply T reply h)
        (commits_after reply commits))
    unfolding next reply_to state_after store_after recover_said start.state_or refusal_of
    after_recover (Ok given) meets =
        subst (Replayed T) (rw ((recovers i).accepted, ← meets.state, ← meets.store)) (more i recovery)
    after_recover (Err r) meets = absurd (cc (meets.start ∙ (recovers i).accepted))

  pub replayed : {s : State} {store : List ℕ} {h : History} {commits : ℕ} → Runs T s store h commits
      → Replayed T (world_of s store h commits)
  replayed (initialized before after s meets) = started before after s meets
  replayed (stepped {s} i x budget r after meets) = after_step s (replayed i) x budget r after meets
  replayed (recovered {s} i r meets) = after_recover s (replayed i) r meets

-- a promise that is met is that of this very startup
kept : {b : Startup} (r : Result State Refusal) {after : List ℕ} → Starts b r after → b ≡ startup_of r after
kept (Ok s) meets =
    λ j. record { refusal = sym meets.start j; state = sym meets.state j; store = sym meets.store j }
kept (Err r) meets =
    λ j. record { refusal = sym meets.start j; state = sym meets.state j; store = sym meets.store j }

pub demand_3_of_code : Demand3OfCode
demand_3_of_code T s store h commits i r meets =
    subst (λ (x : Startup). Recovered T x (on_recover h) commits) (kept r meets) (recovers (replayed T i))

pub companion_of_code : CompanionOfCode
companion_of_code T s store h commits i x budget r after meets n e =
    (fares (replayed T i)).steps x budget n (sym meets.outcome ∙ e)
