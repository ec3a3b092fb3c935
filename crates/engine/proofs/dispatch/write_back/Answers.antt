-- `engine::dispatch::write_back`: the parts written back one by one, the channels last.
use Rattle.std.proofs.Common.{arith}
use Rattle.engine.proofs.WriteBack.{Inside, put_plain, put_tags}
use Rattle.engine.proofs.dispatch.write_back.Goals as goal
use Rattle.engine.proofs.dispatch.write_back.Goals.{After-counts}

inside : (c : After-counts) → Inside c.args.state.now c.args.at
inside c = record { words = omega arith; tags = omega arith; places = omega arith; lengths = omega arith }

pub returns-then-turn : goal.returns-then-turn
returns-then-turn c =
    put_tags c.args.state.now c.args.at c.args.turn _ _ (inside (goal.at.returns-then-turn c).After-counts)
    c.flags.ensures c.counts.ensures c.if-turn.true _ c.plain_channels.ensures

pub returns-else-turn : goal.returns-else-turn
returns-else-turn c =
    put_plain c.args.state.now c.args.at c.args.turn _ _ (inside (goal.at.returns-else-turn c).After-counts)
    c.flags.ensures c.counts.ensures c.if-turn.false _ _ c.places.ensures c.used.ensures
