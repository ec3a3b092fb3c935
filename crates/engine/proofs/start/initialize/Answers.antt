-- `engine::start::initialize`: ready, or refused with the store untouched.
use Rattle.std.proofs.Common.{◌≡◌, length, sym, rules}
use Rattle.std.proofs.Math.Option.{none, some}
use Rattle.model.specs.Start.{initialize, initialize_refusal}
use Rattle.model.specs.Outcome.{refusal_of, refusal_number}
use Rattle.recovery.proofs.Recovering.{starts_ready, starts_refused}
use Rattle.engine.proofs.start.initialize.Goals as goal
use Rattle.engine.proofs.start.initialize.Goals.{In_ok-admit}

-- past the checks there is no refusal
ready : (c : In_ok-admit) → initialize_refusal c.args.topology (length c.args.store.now) ≡ none
unfolding refusal_of
ready c = sym c.in_ok-admit.ensures

pub clear-requires : goal.clear-requires
clear-requires c = ready (goal.at.clear-requires c).In_ok-admit

pub returns-in_err-admit : goal.returns-in_err-admit
unfolding initialize refusal_of
returns-in_err-admit c =
    let said : refusal_of c.from_residual.result ≡ some (refusal_number c.in_err-admit.field-0.0) = search rules in
    starts_refused _ _ _ c.from_residual.result (sym c.in_err-admit.ensures) said

pub returns : goal.returns
unfolding initialize
returns c =
    rw c.clear.ensures (starts_ready _ _ _ (ready (goal.at.returns c).In_ok-admit) c.initial.ensures)
