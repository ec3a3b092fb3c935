-- `told::behind` meets its contract.
use Rattle.std.proofs.Common.{◌≡◌, ◌∙◌, rules}
use Rattle.std.specs.List.{count_by}
use Rattle.account.specs.Deeds.{on_channel}
use Rattle.account.specs.Contents.{behind}
use Rattle.slow.proofs.Pasts.{number_told}
use Rattle.slow.proofs.told.behind.Goals as goal

pub returns : goal.returns
unfolding behind
returns c =
    let test = on_channel 1 c.args.channel in
    let counted : c.count.result ≡ count_by test c.since.result.now = search rules in
    counted
    ∙ number_told test c.since.result.now
    (c.since.ensures.since (on_channel 6 c.args.channel) (λ d t p. search rules))
