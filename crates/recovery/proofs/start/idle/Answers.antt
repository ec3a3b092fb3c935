-- `recovery::start::idle`: its arrays of one value are seen as that value everywhere.
use Rattle.std.proofs.Common.{false}
use Rattle.model.specs.State.{view, idle_state}
use Rattle.model.specs.Topology.{process_limit}
use Rattle.model.proofs.laws.Functions.{seen_replicate}
use Rattle.recovery.proofs.start.idle.Goals as goal

pub returns : goal.returns
unfolding view idle_state
returns c = simp (seen_replicate process_limit false, c.flags.ensures, c.counts.ensures)
