-- `told::saved` meets its contract.
use Rattle.std.proofs.Common.{◌∙◌, rules, tests}
use Rattle.std.proofs.lemmas.Iterator.{YieldsList-from_slice}
use Rattle.std.proofs.lemmas.Iterator.Search.{any_from_yields_List}
use Rattle.model.specs.Topology.{is_late}
use Rattle.account.specs.Progress.{copies, saved_in}
use Rattle.slow.proofs.Pasts.{any_told}
use Rattle.slow.proofs.told.saved.Goals as goal

pub returns : goal.returns
unfolding saved_in is_late
returns c =
    let test = copies c.args.process in
    let copied = any_from_yields_List test _ _ c.any-copied.result c.any-copied.ensures.ran
    (YieldsList-from_slice c.this_round.result.now (cc)) (λ x b q k. search (rules, tests)) in
    cc (copied ∙ any_told test c.this_round.result.now c.this_round.ensures)
