use Rattle.std.proofs.Common.{◌≡◌, ◌<◌, length, get_or, sym, ◌∙◌, arith}
use Rattle.model.specs.declared.Record.TheVariants.{Recover}
use Rattle.model.specs.Reduction.{calls_at}
use Rattle.model.specs.Program.{full_budget, serve}
use Rattle.model.specs.State.{view}
use Rattle.reduction.specs.Parts.{kept}
use Rattle.reduction.proofs.Parts.{calls_length, call_found}
use Rattle.reduction.proofs.Turning.{Turns, step_turns, recover_turns, recover_refused}
use Rattle.reduction.proofs.Replaying.{replay_starts, replay_ends, replay_fails, replay_goes_on}
use Rattle.reduction.proofs.replay.run.Goals as goal
use Rattle.reduction.proofs.replay.run.Goals.{After-nth_call, in-Call, in-Recover+in-Ok, in-Recover+in-Err}

-- the call is the part's
module _ (c : After-nth_call) where
  here : get_or (calls_at c.args.list.now (kept c.args.part)) c.loop-i.i Recover ≡ c.nth_call.result
  here = call_found c.requires c.args.list.now c.loop-i.i c.loop-i-test.true ∙ sym c.nth_call.ensures

  inside : c.loop-i.i < length (calls_at c.args.list.now (kept c.args.part))
  inside = rw (calls_length c.requires c.args.list.now) c.loop-i-test.true

pub loop-i-init : goal.loop-i-init
loop-i-init c = replay_starts

pub returns-in-Err-said : goal.returns-in-Err-said
returns-in-Err-said c =
    let turns : Turns (serve c.args.topology (view c.loop-i.answer.state) c.loop-i.store full_budget c.nth_call.result)
    c.match-nth_call.said c.match-nth_call.answer.state c.match-nth_call.store =
    elim c.match-nth_call.branch [
      | in-Call w ↦
          rw (w.store-is, w.answer-is, w.said-is, w.in-Call.is)
          (step_turns _ _ _ _ w.step-answer.ensures w.room-said.ensures)
      | in-Recover+in-Ok w ↦
          rw (w.store-is, w.answer-is, w.said-is, w.in-Recover.is)
          (recover_turns _ _ _ (rw w.in-Ok.is at w.recover.ensures))
      | in-Recover+in-Err w ↦
          rw (w.store-is, w.answer-is, w.said-is, w.in-Recover.is)
          (recover_refused _ _ _ (rw w.in-Err.is at w.recover.ensures))
    ] in
    let d = (goal.at.returns-in-Err-said c).After-nth_call in
    replay_fails c.loop-i.invariant (inside d) (here d) turns c.in-Err-said.is

pub loop-i-preserved : goal.loop-i-preserved
loop-i-preserved c =
    let turns : Turns (serve c.args.topology (view c.loop-i.answer.state) c.loop-i.store full_budget c.nth_call.result)
    c.match-nth_call.said c.match-nth_call.answer.state c.match-nth_call.store =
    elim c.match-nth_call.branch [
      | in-Call w ↦
          rw (w.store-is, w.answer-is, w.said-is, w.in-Call.is)
          (step_turns _ _ _ _ w.step-answer.ensures w.room-said.ensures)
      | in-Recover+in-Ok w ↦
          rw (w.store-is, w.answer-is, w.said-is, w.in-Recover.is)
          (recover_turns _ _ _ (rw w.in-Ok.is at w.recover.ensures))
      | in-Recover+in-Err w ↦
          rw (w.store-is, w.answer-is, w.said-is, w.in-Recover.is)
          (recover_refused _ _ _ (rw w.in-Err.is at w.recover.ensures))
    ] in
    let d = (goal.at.loop-i-preserved c).After-nth_call in
    replay_goes_on c.loop-i.invariant (inside d) (here d) turns (omega (arith, c.requires.within)) c.in-Ok-said.is

pub returns : goal.returns
returns c = replay_ends c.loop-i.invariant (rw (calls_length c.requires c.args.list.now) c.loop-i-test.false)
