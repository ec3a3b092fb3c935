use Rattle.std.proofs.Common.{arith}
use Rattle.model.proofs.laws.ChannelLaws.{entries_count}
use Rattle.report.proofs.Appending.{◌then◌, at_most}
use Rattle.report.proofs.Texts.{values_two}
use Rattle.report.proofs.channel_line.Goals as goal

pub returns : goal.returns
returns c =
    rw (values_two, ← c.messages.ensures)
    (at_most
    (c.bytes-named.ensures
    then c.value-next.ensures
    then c.value-counted.ensures
    then c.bodies-listed.ensures
    then c.bytes.ensures)
    (omega (arith, entries_count c.args.channel)))
