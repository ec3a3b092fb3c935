use Rattle.std.proofs.Common.{rules}
use Rattle.model.specs.State.{view_counts}
use Rattle.account.specs.Standing.{state_of, state_from}
use Rattle.account.specs.Logs.{messages_logged, channel_logged}
use Rattle.slow.specs.Kept.{past_of}
use Rattle.slow.proofs.Standings.{tabled}
use Rattle.slow.proofs.standing.counts.Goals as goal

pub returns : goal.returns
unfolding view_counts state_of state_from
returns c =
    let T = c.args.topology in
    let ds = past_of c.args.past in
    λ j.
    record {
      messages = tabled c.table-messages.result T.processes 16 0 (λ p. messages_logged T p ds)
          (λ i l. let t = c.table-messages.ensures.told 0 i l in search rules)
          (c.table-messages.ensures.other 0) j;
      channels = tabled c.table-channels.result T.channels 64 0 (λ p. channel_logged p ds)
          (λ i l. let t = c.table-channels.ensures.told 0 i l in search rules)
          (c.table-channels.ensures.other 0) j;
    }
