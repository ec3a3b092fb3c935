-- `now::all_ready` meets its contract.
use Rattle.std.proofs.Common.{◌∙◌, refl, arith, rules, tests}
use Rattle.std.proofs.lemmas.Iterator.{YieldsList-from_range}
use Rattle.std.proofs.lemmas.Iterator.Search.{all_from_yields_List}
use Rattle.model.specs.State.{view}
use Rattle.account.specs.Judging.{ready}
use Rattle.slow.proofs.Below.{all_is}
use Rattle.slow.proofs.now.all_ready.Goals as goal

pub returns : goal.returns
unfolding view
returns c =
    let test = ready (view c.args.s) in
    let n = c.args.s.topology.processes in
    all_from_yields_List test _ _ _ c.all.ensures.ran (YieldsList-from_range 0 n n refl (omega arith))
    (λ x b q k. search (rules, tests))
    ∙ all_is test n
