-- `deeds::Past::since` meets its contract.
use Rattle.std.proofs.Common.{not, rules, tests}
use Rattle.std.proofs.lemmas.Iterator.Adapters.{YieldsList-from_rev_slice}
use Rattle.std.proofs.lemmas.Iterator.Consumers.{YieldsList-at, count_from_yields_List}
use Rattle.std.proofs.lemmas.Iterator.Search.{YieldsList-from_take_while}
use Rattle.slow.proofs.Pasts.{tail_is}
use Rattle.slow.proofs.deeds.Past.since.Goals as goal

pub returns-clause-since : goal.returns-clause-since
returns-clause-since g c test says =
    tail_is test c.done-done.result.now c.count-n.result c.done-done.ensures.0
    (count_from_yields_List c.take_while.result _ c.count-n.ensures.ran
    (YieldsList-from_take_while _ (λ d. not (test d))
    (YieldsList-at c.take_while.ensures.source (YieldsList-from_rev_slice c.done-done.result.now (cc)))
    c.take_while.ensures.closure c.take_while.ensures.done (λ x b q k. search (rules, tests, says))))
