-- `recovery::start::recover`: a state, with what the words and channels are, or refused.
use Rattle.std.proofs.Common.{◌≡◌, sym, rules}
use Rattle.std.proofs.Math.Option.{none, some}
use Rattle.model.specs.Start.{recover_refusal}
use Rattle.model.specs.Outcome.{refusal_of, refusal_number}
use Rattle.model.specs.Recover as recovery
use Rattle.recovery.proofs.Recovering.{starts_ready, starts_refused}
use Rattle.recovery.proofs.start.recover.Goals.{In_ok-admit_store}
use Rattle.recovery.proofs.start.recover.Goals as goal

-- past the checks there is no refusal
ready : (c : In_ok-admit_store) → recover_refusal c.args.topology c.args.store.now ≡ none
unfolding refusal_of
ready c = sym c.in_ok-admit_store.ensures

pub words-words-requires : goal.words-words-requires
words-words-requires c = ready (goal.at.words-words-requires c).In_ok-admit_store

pub channels-filled-requires : goal.channels-filled-requires
channels-filled-requires c = ready (goal.at.channels-filled-requires c).In_ok-admit_store

pub returns-in_err-admit_store : goal.returns-in_err-admit_store
unfolding recovery.recover refusal_of
returns-in_err-admit_store c =
    let r = c.in_err-admit_store.field-0.0 in
    let said : refusal_of c.from_residual.result ≡ some (refusal_number r) = search rules in
    starts_refused _ _ _ c.from_residual.result (sym c.in_err-admit_store.ensures) said

pub returns : goal.returns
unfolding recovery.recover
returns c =
    starts_ready _ _ _ (ready (goal.at.returns c).In_ok-admit_store)
    (rw (← c.words-words.ensures, ← c.channels-filled.ensures, ← c.line.ensures) c.idle.ensures)
