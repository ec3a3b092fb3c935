-- `carry`: all of it written, or refused with the target as it was.
use Rattle.std.proofs.Common.{◌≡◌, ◌∙◌, ℕ, sym, refl, length, rules}
use Rattle.std.proofs.Math.Option.{none, some}
use mathlib.Core.Option.{or_else}
use Rattle.model.specs.Outcome.{refusal_of, refusal_number}
use Rattle.migration.specs.Carry.{carry, carry_refusal}
use Rattle.reading.specs.Source.{form_of}
use Rattle.migration.proofs.Admitting.{carries_done, carries_refused}
use Rattle.migration.proofs.carry.Goals.{In_ok-long_enough}
use Rattle.migration.proofs.carry.Goals as goal

-- past the checks there is no refusal
passed : (c : In_ok-long_enough)
    → let a = c.args in
    carry_refusal (form_of a.carriage.from) (form_of a.carriage.to) a.carriage.topology a.source.now
    (length a.target.now)
    ≡ none
unfolding carry_refusal or_else refusal_of
passed c = rw (← c.in_ok-admit_store.ensures) (sym c.in_ok-long_enough.ensures)

pub write-requires : goal.write-requires
write-requires c = passed (goal.at.write-requires c).In_ok-long_enough

pub returns-in_err-admit_store : goal.returns-in_err-admit_store
unfolding carry carry_refusal or_else refusal_of
returns-in_err-admit_store c =
    let a = c.args in
    let n : ℕ = refusal_number c.in_err-admit_store.field-0.0 in
    let said : refusal_of c.from_residual.result ≡ some n = search rules in
    let found : carry_refusal (form_of a.carriage.from) (form_of a.carriage.to) a.carriage.topology a.source.now
    (length a.target.now) ≡ some n = rw (← c.in_err-admit_store.ensures) refl in
    carries_refused _ _ _ (said ∙ sym found) n found

pub returns-in_err-long_enough : goal.returns-in_err-long_enough
unfolding carry carry_refusal or_else refusal_of
returns-in_err-long_enough c =
    let a = c.args in
    let n : ℕ = refusal_number c.in_err-long_enough.field-0.0 in
    let said : refusal_of c.from_residual-in_err-long_enough.result ≡ some n = search rules in
    let found : carry_refusal (form_of a.carriage.from) (form_of a.carriage.to) a.carriage.topology a.source.now
    (length a.target.now) ≡ some n =
    rw (← c.in_ok-admit_store.ensures) (sym c.in_err-long_enough.ensures) in
    carries_refused _ _ _ (said ∙ sym found) n found

pub returns : goal.returns
unfolding carry refusal_of
returns c =
    let done = passed (goal.at.returns c).In_ok-long_enough in
    rw c.write.ensures (carries_done _ _ _ (sym done) done)
