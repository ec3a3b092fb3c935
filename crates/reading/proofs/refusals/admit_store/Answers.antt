use Rattle.std.proofs.Common.{refl, rules}
use mathlib.Core.Option.{or_else}
use Rattle.model.specs.Outcome.{refusal_of}
use Rattle.model.specs.Check.{first_refusal}
use Rattle.model.specs.Recover.{recover_refusal}
use Rattle.reading.proofs.refusals.admit_store.Goals as goal

pub returns-in_err-admit_cells : goal.returns-in_err-admit_cells
unfolding refusal_of recover_refusal or_else
returns-in_err-admit_cells c = rw (← c.in_err-admit_cells.ensures) (search rules)

pub returns-then-not-counts_fit : goal.returns-then-not-counts_fit
unfolding refusal_of recover_refusal or_else first_refusal
returns-then-not-counts_fit c =
    rw (← c.in_ok-admit_cells.ensures, ← c.counts_fit.ensures, c.if-not-counts_fit.true) refl

pub returns : goal.returns
unfolding refusal_of recover_refusal or_else first_refusal
returns c = rw (← c.in_ok-admit_cells.ensures, ← c.counts_fit.ensures, c.if-not-counts_fit.false) refl
