use Rattle.std.proofs.Common.{refl, sym, ◌∙◌}
use Rattle.operator.specs.Console.{answer_to, console}
use Rattle.operator.proofs.Asking.{asks}
use Rattle.operator.proofs.answer.Goals as goal

pub returns-in-Some-Reduction : goal.returns-in-Some-Reduction
unfolding answer_to
returns-in-Some-Reduction c =
    let arm = c.in-Some-Reduction in
    rw (asks c.args.input.now c.asked.ensures arm.is arm.field-0-is c.taken-bytes.ensures.value) c.reduce.ensures

pub returns-in-Some-Carry : goal.returns-in-Some-Carry
unfolding answer_to
returns-in-Some-Carry c =
    let arm = c.in-Some-Carry in
    rw (asks c.args.input.now c.asked.ensures arm.is arm.field-0-is c.taken-bytes.ensures.value) c.show.ensures

pub returns-in-Some-Replay : goal.returns-in-Some-Replay
unfolding answer_to
returns-in-Some-Replay c =
    let arm = c.in-Some-Replay in
    rw (asks c.args.input.now c.asked.ensures arm.is arm.field-0-is c.taken-bytes.ensures.value) c.replay.ensures

pub returns-in-None : goal.returns-in-None
unfolding console answer_to
returns-in-None c = (refl, rw (sym c.asked.ensures ∙ c.in-None.is))
