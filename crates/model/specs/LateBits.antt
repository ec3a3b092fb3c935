-- Document 02, M-105: "19, a late bit for a board not in the plan". The test of the map as a number that
-- Topology.late_refusal makes is just that: it passes where every late process is planned, and nowhere else. As a
-- statement; the theorem is proofs/LateBits.antt.
use Rattle.std.specs.Prelude.{ℕ, ◌≡◌, true}
use Rattle.std.proofs.Math.Option.{none}
use Rattle.model.specs.declared.Topology.{Topology}
use Rattle.model.specs.Topology.{has_process, is_late, late_refusal}

-- every late process is planned
abbrev pub LatePlanned : Topology → Type 0
LatePlanned T = (p : ℕ) → is_late T p ≡ true → has_process T p ≡ true

pub record LateBits (T : Topology) : Type 0 where
  pub passes : late_refusal T ≡ none → LatePlanned T
  pub planned : LatePlanned T → late_refusal T ≡ none
