-- Demand 3: what a recover after a list of calls gives. The theorem is proofs/Demand3.antt, of any topology: document
-- 02, M-105, "Demand 3 holds, as it stands, for plans with late boards."
use Rattle.std.specs.Prelude.{ℕ, ◌<◌, ◌≡◌, true, List, ◌++◌}
use Rattle.std.proofs.Math.Option.{none}
use Rattle.model.specs.declared.Topology.{Topology}
use Rattle.model.specs.declared.Phase.TheVariants.{Idle}
use Rattle.model.specs.Word.{replay}
use Rattle.model.specs.Topology.{sender, receiver}
use Rattle.model.specs.Channel.{bodies, markerless}
use Rattle.model.specs.Start.{Startup, initialize, recover}
use Rattle.model.specs.History.{History, sent, received, bodies_on, receipts_of, on_recover}
use Rattle.model.specs.Run.{Call, World, run, first_world}

-- What recover answers (r), with the histories as this recover leaves them (h) and the number of accepted commits.
pub record Recovered (T : Topology) (r : Startup) (h : History) (commits : ℕ) : Type 0 where
  -- a restart after the list is never refused, and
  pub accepted : r.refusal ≡ none
  -- "gives an idle state whose line number is the number of accepted finishes."
  pub idle : r.state.round.phase ≡ Idle
  pub line : r.state.round.line ≡ commits
  -- "on each wire the bodies sent, in order, are the bodies taken, in order, followed by the bodies the wire now holds"
  pub channels : (c : ℕ) → c < T.channels
      → bodies_on sent c (h.events (sender T c))
      ≡ bodies_on received c (h.events (receiver T c)) ++ bodies (r.state.channel c)
  -- "and it holds no note."
  pub markerless : (c : ℕ) → c < T.channels → markerless (r.state.channel c) ≡ true
  -- "Each word is what the takes in the board's book make from word 0, in order."; "What a board's takes make, after a
  -- restart, is read by this rule.": M-101's, of wire and body
  pub words : (p : ℕ) → p < T.processes → r.state.word p ≡ replay 0 (receipts_of (h.events p))

-- recover, called in the world w
abbrev pub RecoveredAfter : Topology → World → Type 0
RecoveredAfter T w = Recovered T (recover T w.store) (on_recover w.history) w.commits

-- Demand 3: any topology and store with an accepted initialize, and any list of calls after it, whatever the budgets.
-- It has no premise on what comes after a lost power: the claim holds for every list (docs/DECISIONS.md, 11).
abbrev pub Demand3 : Type 0
Demand3 =
    (T : Topology) (store : List ℕ) → (initialize T store).refusal ≡ none → (calls : List Call)
    → RecoveredAfter T (run T (first_world T store) calls)
