-- What was read is the reader's first bytes, and what was written one of the texts for them.
use Rattle.std.proofs.Common.{◌≡◌, rules, length}
use Rattle.console.specs.Answer.{IsAnswer}
use Rattle.operator.specs.Console.{bytes_taken}
use Rattle.stream.proofs.Answer.{takes, prints}
use Rattle.console.proofs.answer.Goals as goal

pub returns-clause-taken : goal.returns-clause-taken
returns-clause-taken g c =
    let long : length c.read_full.new.buffer ≡ bytes_taken = search rules in
    takes _ _ _ _ _ long c.in_ok-n.ensures.rest

pub returns-clause-printed : goal.returns-clause-printed
returns-clause-printed g c =
    let long : length c.read_full.new.buffer ≡ bytes_taken = search rules in
    let told = c.console-end.ensures in
    prints _ _ IsAnswer _ _ _ _ _ _ long c.in_ok-n.ensures.bytes (told.part, told.allowed, told.text.text)
    c.write_all.ensures.bytes
