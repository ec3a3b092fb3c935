use Rattle.model.specs.Run.{first_world}
use Rattle.model.specs.CallList.{replies}
use Rattle.reduction.proofs.Turning.{initialized}
use Rattle.reduction.proofs.replay.replay.Goals as goal

pub unwrap-first-requires : goal.unwrap-first-requires
unwrap-first-requires c = initialized c.args.topology c.requires.1 c.initialize.ensures

-- the run starts with what initialize leaves of a store of zeros
pub returns : goal.returns
unfolding replies first_world
returns c =
    let started = rw c.unwrap-first.ensures at c.initialize.ensures in
    rw (started.state, started.store) at c.run.ensures
