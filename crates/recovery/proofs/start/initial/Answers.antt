use Rattle.std.proofs.Common.{◌∙◌, replicate}
use Rattle.model.specs.Topology.{channel_limit}
use Rattle.recovery.proofs.Recovering.{initial_state}
use Rattle.recovery.proofs.start.initial.Goals as goal

pub returns : goal.returns
returns c = c.idle.ensures ∙ initial_state c.args.topology (replicate channel_limit c.blank.result)
