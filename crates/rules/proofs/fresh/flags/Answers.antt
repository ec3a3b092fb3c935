-- `rules::fresh::flags`: an array of false reads as false everywhere.
use Rattle.std.proofs.Common.{false}
use Rattle.model.specs.State.{view_progress, no_progress}
use Rattle.model.specs.Topology.{process_limit, channel_limit}
use Rattle.model.proofs.laws.Functions.{seen_replicate}
use Rattle.rules.proofs.fresh.flags.Goals as goal

pub returns : goal.returns
unfolding view_progress no_progress
returns c =
    λ i. record {
      logical = seen_replicate process_limit false i;
      saved = seen_replicate process_limit false i;
      closed = seen_replicate channel_limit false i;
      sent = seen_replicate channel_limit false i;
    }
