-- `told::logged` meets its contract.
use Rattle.std.proofs.Common.{◌≡◌, ◌∙◌, rules}
use Rattle.std.specs.List.{count_by}
use Rattle.account.specs.Logs.{logs_on_channel, channel_logged}
use Rattle.slow.proofs.Pasts.{number_told}
use Rattle.slow.proofs.told.logged.Goals as goal

pub returns : goal.returns
unfolding channel_logged
returns c =
    let test = logs_on_channel c.args.channel in
    let counted : c.count.result ≡ count_by test c.since_clear.result.now = search rules in
    counted ∙ number_told test c.since_clear.result.now c.since_clear.ensures.since
