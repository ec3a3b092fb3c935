use Rattle.std.proofs.Common.{◌≡◌, length, refl, sym, ◌∙◌, rules, arith}
use Rattle.std.specs.Prelude.{Ok, Err}
use Rattle.model.specs.declared.Topology.{Topology}
use Rattle.slow.specs.declared.Replayed.{Replayed}
use Rattle.slow.specs.Replays.{Replays}
use Rattle.operator.specs.declared.refused.Refused.TheVariants.{Other}
use Rattle.operator.specs.Lists.{calls_in, held, ReadsList}
use Rattle.operator.proofs.Answering.{records}
use Rattle.operator.proofs.Replaying.{Ran, list_refused, list_run, replays_plan, replays_refused, replays_run}
use Rattle.operator.proofs.ToldLines.{taken_lines}
use Rattle.operator.proofs.replay.replay.Goals as goal
use Rattle.operator.proofs.replay.replay.Goals.{After-read-read}

pub returns-in_err-topology : goal.returns-in_err-topology
returns-in_err-topology c =
    let same : c.from_residual.result ≡ Err c.in_err-topology.field-0.0 = search rules in
    let fails = c.in_err-topology.ensures in
    rw same (refl, replays_plan c.args.bytes.now fails.checks ∙ sym fails.told)

-- the records after the plan are read
list_read : (c : After-read-read) → ReadsList (records c.args.bytes.now) c.read-read.result
list_read c = rw c.rest.ensures at c.read-read.ensures

pub returns-in_err-replayed : goal.returns-in_err-replayed
returns-in_err-replayed c =
    let same : c.from_residual-in_err-replayed.result ≡ Err (Other c.in_err-replayed.field-0.0) = search rules in
    let plan = c.in_ok-topology.ensures in
    let d = (goal.at.returns-in_err-replayed c).After-read-read in
    let refused = list_refused _ _ (list_read d) c.in_err-replayed.ensures in
    rw same (refl, replays_refused c.args.bytes.now plan.checks plan.plan refused)

-- or the list is run
ran : (d : After-read-read) (T : Topology) {r : Replayed} → Replays T (held d.read-read.result) (Ok r)
    → Ran T (calls_in (records d.args.bytes.now)) r
ran d T p = list_run T (records d.args.bytes.now) (list_read d) p

pub shared_ref_as_front-lines : goal.shared_ref_as_front-lines
shared_ref_as_front-lines c =
    (ran (goal.at.shared_ref_as_front-lines c).After-read-read _ c.in_ok-replayed.ensures).few

pub returns : goal.returns
returns c =
    let plan = c.in_ok-topology.ensures in
    let d = (goal.at.returns c).After-read-read in
    let run = ran d _ c.in_ok-replayed.ensures in
    let r = c.in_ok-replayed.replayed in
    let places : length r.answers ≡ 256 = search rules in
    replays_run c.args.bytes.now plan.checks plan.plan run c.requires plan.accepted c.read-read.result.end
    (list_read d).end (rw (taken_lines r.count r.answers (omega (arith, run.few))) at c.lines-at.ensures)
    c.broken_line-next.ensures c.print.ensures
