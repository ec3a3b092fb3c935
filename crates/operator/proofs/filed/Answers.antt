use Rattle.operator.proofs.Asking.{asks_file}
use Rattle.operator.proofs.Files.{store_filed}
use Rattle.operator.proofs.filed.Goals as goal

pub returns-in-Some-Carry : goal.returns-in-Some-Carry
returns-in-Some-Carry c =
    let arm = c.in-Some-Carry in
    rw (asks_file c.args.input.now c.asked.ensures arm.is arm.field-0-is c.taken.ensures.value)
    (store_filed arm.way c.taken.result.now _ _ c.file.result c.file.ensures)
