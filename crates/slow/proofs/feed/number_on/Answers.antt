-- `feed::number_on` meets its contract.
use Rattle.std.proofs.Common.{◌≡◌, ◌∙◌, ◌≤◌, ◌&&◌, [], nat_eq, get_or, take, map, length, rules, tests, arith}
use Rattle.std.specs.Bool.{beq}
use Rattle.std.specs.List.{filter}
use Rattle.account.specs.declared.Deed.{Deed}
use Rattle.std.proofs.lemmas.Iterator.{YieldsList-from_slice, YieldsList-from_map}
use Rattle.std.proofs.lemmas.Iterator.Consumers.{YieldsList-at, YieldsList-from_filter, count_from_yields_List}
use Rattle.account.specs.Deeds.{did}
use Rattle.slow.specs.Kept.{deed_at}
use Rattle.slow.proofs.Feeding.{events_counted, events_within}
use Rattle.slow.proofs.feed.number_on.Goals as goal

pub returns : goal.returns
returns c =
    let a = c.args in
    let f = deed_at a.past in
    let row = get_or a.histories.entries a.p [] in
    let long : a.n ≤ length row = omega (arith, a.histories.rows a.p c.requires.0) in
    let counts = λ (d : Deed). beq (did 1 d) a.sends && nat_eq a.channel d.channel in
    let counted : c.count.result ≡ length (filter counts (map f (take a.n row))) =
    count_from_yields_List c.filter.result _ c.count.ensures.ran
    (YieldsList-from_filter _ counts
    (YieldsList-at c.filter.ensures.source
    (YieldsList-from_map _ f (YieldsList-at c.map.ensures.source (YieldsList-from_slice (take a.n row) (search rules)))
    c.map.ensures.closure (λ x r q k. search (rules, tests))))
    c.filter.ensures.closure (λ x b q k. search (rules, tests))) in (
      counted ∙ events_counted f a.histories a.p a.sends a.channel a.n long,
      rw counted (events_within f a.histories a.p a.sends a.channel a.n),
    )
