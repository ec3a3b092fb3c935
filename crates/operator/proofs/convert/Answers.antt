use Rattle.std.proofs.Common.{arith}
use Rattle.report.proofs.Printing.{whole_text}
use Rattle.operator.proofs.convert.Goals as goal

pub returns-in-Ok : goal.returns-in-Ok
returns-in-Ok c = whole_text c.in-Ok.ensures (omega (arith, c.told-out))

pub returns-in-Err : goal.returns-in-Err
returns-in-Err c =
    let (same, said) = c.in-Err.ensures in
    rw said (whole_text (rw same at c.tell.ensures) (omega (arith, c.told-out)))
