use Rattle.std.proofs.Common.{◌≡◌, sym, ap, ◌∙◌, rules}
use Rattle.std.specs.Prelude.{Err}
use mathlib.Core.Option.{none}
use Rattle.model.specs.Topology.{topology_refusal}
use Rattle.model.specs.Outcome.{refusal_of}
use Rattle.model.specs.CallList.{first_failure}
use Rattle.reduction.specs.Replays.{failure_in}
use Rattle.reduction.proofs.Wholes.{all_calls, held_places}
use Rattle.reduction.proofs.Reducing.{sought_long, sought_plan, sought_none, sought_failure, refused_reduces}
use Rattle.reduction.proofs.Reducing.{failure_reduces}
use Rattle.reduction.proofs.reduce.Goals as goal
use Rattle.reduction.proofs.reduce.Goals.{After-replay}

-- 18
pub returns-then-list-gt-LISTED : goal.returns-then-list-gt-LISTED
returns-then-list-gt-LISTED c = refused_reduces _ _ _ (sought_long _ _ c.if-list-gt-LISTED.true)

-- the plan's
pub returns-in_err-check : goal.returns-in_err-check
unfolding refusal_of
returns-in_err-check c =
    let same : c.from_residual.result ≡ Err c.in_err-check.field-0.0 = search rules in
    rw same (refused_reduces _ _ _ (sought_plan _ _ c.if-list-gt-LISTED.false (sym c.in_err-check.ensures)))

pub replay-requires : goal.replay-requires
unfolding refusal_of
replay-requires c = (held_places c.if-list-gt-LISTED.false c.first-all.ensures, sym c.in_ok-check.ensures)

-- the plan passes, and all calls were run
module _ (c : After-replay) where
  passes : topology_refusal c.args.topology ≡ none
  unfolding refusal_of
  passes = sym c.in_ok-check.ensures

  ran : failure_in c.replay.result.refused ≡ first_failure c.args.topology c.args.list.now
  unfolding first_failure
  ran = c.replay.ensures.end ∙ ap (first_failure c.args.topology) (all_calls c.args.list.now c.first-all.ensures)

pub returns-in_default : goal.returns-in_default
returns-in_default c =
    let d = (goal.at.returns-in_default c).After-replay in
    refused_reduces _ _ _
    (sought_none _ _ c.if-list-gt-LISTED.false (passes d) (sym (ran d) ∙ ap failure_in c.in_default.is))

-- so the search is one
pub invariant_of-search : goal.invariant_of-search
invariant_of-search c =
    let d = (goal.at.invariant_of-search c).After-replay in
    record { planned = passes d; few = c.if-list-gt-LISTED.false; fails = sym (ran d) ∙ ap failure_in c.in-Some.is }

pub returns : goal.returns
returns c =
    let d = (goal.at.returns c).After-replay in
    failure_reduces _ _ c.in-Some.first
    (sought_failure _ _ c.if-list-gt-LISTED.false (passes d) (sym (ran d) ∙ ap failure_in c.in-Some.is))
    c.shrink-part.ensures.held c.shrink-part.ensures.smallest c.replay-2.ensures
