-- A row that is there and no recover's is the kind's step.
use Rattle.std.proofs.Common.{◌≡◌, arith, sym, ◌∙◌}
use Rattle.record.specs.StepRead.{step_of}
use Rattle.record.specs.Kind.{found}
use Rattle.record.proofs.KindLaws.{as_call, step_row, a_step, no_step}
use Rattle.record.proofs.kind.record_of.Goals as goal

pub returns : goal.returns
returns c =
    let a = c.args in
    let there = sym c.fits.ensures ∙ c.if-not-fits.false in
    let told : found c.map.result ≡ as_call (step_of a.kind a.process a.channel a.body)
    = grind (arith, a_step, no_step) in
    told ∙ sym (step_row a.kind a.process a.channel a.body there c.if-kind-eq-RECOVER.false)
