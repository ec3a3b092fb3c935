-- `rules::fresh::counts`: an array of 0 reads as 0 everywhere.
use Rattle.model.specs.State.{view_counts, no_counts}
use Rattle.model.specs.Topology.{process_limit, channel_limit}
use Rattle.model.proofs.laws.Functions.{seen_replicate}
use Rattle.rules.proofs.fresh.counts.Goals as goal

pub returns : goal.returns
unfolding view_counts no_counts
returns c = λ i. record { messages = seen_replicate process_limit 0 i; channels = seen_replicate channel_limit 0 i }
