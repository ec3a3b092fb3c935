-- `feed::after_mark` meets its contract.
use Rattle.std.proofs.Common.{◌≡◌, arith, Some}
use Rattle.model.specs.Topology.{sender, receiver}
use Rattle.slow.specs.Kept.{deed_at}
use Rattle.slow.specs.Seen.{mark_in}
use Rattle.slow.proofs.Feeding.{not_after, tells_after}
use Rattle.slow.proofs.feed.after_mark.Goals as goal

pub returns-in_default : goal.returns-in_default
unfolding sender
returns-in_default c =
    let a = c.args in
    not_after a.topology (deed_at a.past) a.histories a.channel (cc)

pub number_on-requires : goal.number_on-requires
unfolding sender
number_on-requires c =
    let a = c.args in
    let marked : mark_in a.histories (sender a.topology a.channel) ≡ Some c.in-Some.mark = cc in
    let within = a.histories.mark _ _ marked in
    (rw c.at-p.ensures c.requires.0, omega (arith, within, a.histories.room (sender a.topology a.channel)))

pub number_on-requires-2 : goal.number_on-requires-2
unfolding receiver
number_on-requires-2 c =
    (rw c.at-q.ensures c.requires.1, rw c.at-count.ensures (c.args.histories.room _))

pub returns : goal.returns
unfolding sender receiver
returns c =
    let a = c.args in
    let marked : mark_in a.histories (sender a.topology a.channel) ≡ Some c.in-Some.mark = cc in
    rw (c.number_on.ensures.0, c.number_on-2.ensures.0, c.at-count.ensures, c.at-p.ensures, c.at-q.ensures)
    (tells_after a.topology (deed_at a.past) a.histories a.channel c.in-Some.mark marked)
