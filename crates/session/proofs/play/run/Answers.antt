use Rattle.session.proofs.Opening.{begins, plays_through}
use Rattle.session.proofs.play.run.Goals as goal

pub unwrap-state-requires : goal.unwrap-state-requires
unwrap-state-requires c = begins c.requires c.initialize.result c.initialize.ensures

pub returns : goal.returns
returns c =
    let begun = rw c.unwrap-state.ensures at c.initialize.ensures in
    plays_through _ _ _ _ begun.state begun.store c.requires.taken c.requests-cursor.ensures c.requires.accepted
    c.print.ensures
