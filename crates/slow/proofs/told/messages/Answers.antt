-- `told::messages` meets its contract.
use Rattle.std.proofs.Common.{◌≡◌, ◌∙◌, rules}
use Rattle.std.specs.List.{count_by}
use Rattle.model.specs.Topology.{receiver}
use Rattle.account.specs.Logs.{logs_message, messages_logged}
use Rattle.slow.proofs.Pasts.{number_told}
use Rattle.slow.proofs.told.messages.Goals as goal

pub returns : goal.returns
unfolding messages_logged receiver
returns c =
    let test = logs_message c.args.topology c.args.process in
    let counted : c.count.result ≡ count_by test c.since_clear.result.now = search rules in
    counted ∙ number_told test c.since_clear.result.now c.since_clear.ensures.since
