-- `engine::dispatch::make`: refused by `admit`, or what its turn promises of every state that looks so at the spot, of
-- the one at hand.
use Rattle.std.proofs.Common.{length}
use Rattle.engine.specs.Spots.{Within}
use Rattle.engine.proofs.Subjects.{Admitted, admits, within}
use Rattle.engine.proofs.Promises.{step_refused}
use Rattle.engine.proofs.Turning.{given_up}
use Rattle.engine.proofs.WriteBack.{spot_seen, step_stopped, step_went}
use Rattle.engine.proofs.dispatch.make.Goals as goal
use Rattle.engine.proofs.dispatch.make.Goals.{In_ok-at}

pub returns-in_err-at : goal.returns-in_err-at
returns-in_err-at c =
    rw (given_up _ c.from_residual.ensures.1)
    (step_refused c.args.state.now _ _ _ _ (admits c.args.state.now c.args.step _ _ c.in_err-at.ensures))

-- admitted, about a subject
admitted : (c : In_ok-at) → Admitted c.args.state.now c.args.step (length c.args.store.now) c.in_ok-at.at
admitted c = admits c.args.state.now c.args.step _ _ c.in_ok-at.ensures

inside : (c : In_ok-at) → Within c.args.state.now.topology c.in_ok-at.at
inside c = within c.args.state.now (admitted c).sound c.args.step (admitted c).subject

pub read-s-requires : goal.read-s-requires
read-s-requires c = inside (goal.at.read-s-requires c).In_ok-at

pub turn-requires : goal.turn-requires
turn-requires c =
    let a = admitted (goal.at.turn-requires c).In_ok-at in
    (spot_seen c.args.state.now c.args.step _ c.args.budget a c.read-s.ensures, a.store)

pub returns-in_err-turn : goal.returns-in_err-turn
returns-in_err-turn c =
    let a = admitted (goal.at.returns-in_err-turn c).In_ok-at in
    rw (given_up _ c.from_residual-in_err-turn.ensures.1)
    (step_stopped c.args.state.now c.args.step _ c.args.budget a c.read-s.ensures _ c.in_err-turn.ensures)

pub write_back-requires : goal.write_back-requires
write_back-requires c = inside (goal.at.write_back-requires c).In_ok-at

pub returns : goal.returns
returns c =
    step_went c.args.state.now c.args.step _ c.args.budget (admitted (goal.at.returns c).In_ok-at) c.read-s.ensures _
    c.in_ok-turn.ensures _ c.write_back.ensures
