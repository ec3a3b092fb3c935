use Rattle.std.proofs.Common.{rules}
use mathlib.Core.Option.{or_else}
use Rattle.model.specs.Outcome.{refusal_of}
use Rattle.model.specs.Recover.{initialize_refusal}
use Rattle.reading.proofs.refusals.admit_cells.Goals as goal

pub returns-in_err-check : goal.returns-in_err-check
unfolding refusal_of initialize_refusal or_else
returns-in_err-check c = rw (← c.in_err-check.ensures) (search rules)

pub returns : goal.returns
unfolding refusal_of initialize_refusal or_else
returns c = rw (← c.in_ok-check.ensures) c.long_enough.ensures
