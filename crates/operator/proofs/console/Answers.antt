use Rattle.std.proofs.Common.{arith}
use Rattle.operator.proofs.Asking.{tells}
use Rattle.operator.proofs.Lines.{refusal_told}
use Rattle.operator.proofs.console.Goals as goal

pub returns-in-Ok : goal.returns-in-Ok
returns-in-Ok c = tells c.args.input.now (omega (arith, c.told-out)) c.in-Ok.ensures

pub returns-in-Err : goal.returns-in-Err
returns-in-Err c =
    let (same, said) = c.in-Err.ensures in
    let told = refusal_told c.in-Err.refused (rw same at c.tell.ensures) in
    tells c.args.input.now (omega (arith, c.told-out)) (rw said told)
