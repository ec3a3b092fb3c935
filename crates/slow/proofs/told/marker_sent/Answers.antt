-- `told::marker_sent` meets its contract.
use Rattle.std.proofs.Common.{◌∙◌, rules, tests}
use Rattle.std.proofs.lemmas.Iterator.{YieldsList-from_slice}
use Rattle.std.proofs.lemmas.Iterator.Search.{any_from_yields_List}
use Rattle.account.specs.Deeds.{on_channel}
use Rattle.account.specs.Progress.{marker_sent}
use Rattle.slow.proofs.Pasts.{any_told}
use Rattle.slow.proofs.told.marker_sent.Goals as goal

pub returns : goal.returns
unfolding marker_sent
returns c =
    let test = on_channel 6 c.args.channel in
    any_from_yields_List test _ _ _ c.any.ensures.ran (YieldsList-from_slice c.this_round.result.now (cc))
    (λ x b q k. search (rules, tests))
    ∙ any_told test c.this_round.result.now c.this_round.ensures
