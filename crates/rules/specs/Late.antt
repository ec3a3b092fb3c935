-- Where the physical checkpoints go on, as a phase: "A late board is passed over in copying; if all are late, begin
-- starts marking as the last copy does."
use Rattle.std.specs.Prelude.{ℕ}
use Rattle.std.proofs.Math.Option.{Option, none, some}
use Rattle.model.specs.declared.Phase.{Phase}
use Rattle.model.specs.declared.Phase.TheVariants.{Physical, Logical}
use Rattle.model.specs.Topology.{first_early}

-- the physical phase with this process as the next one; where there is none, the logical phase
unfoldable pub phase_at : Option ℕ → Phase
phase_at (some p) = Physical p
phase_at none = Logical

-- at the first early process from `from` on
abbrev pub phase_from : (processes late from : ℕ) → Phase
phase_from processes late from = phase_at (first_early processes late from)
