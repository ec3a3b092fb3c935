use Rattle.std.proofs.Common.{arith}
use Rattle.model.specs.Outcome.{said_values}
use Rattle.report.specs.Text.{values, said_name, said_text}
use Rattle.report.proofs.Appending.{at_most, of_length}
use Rattle.report.proofs.Texts.{decimal_length, values_one}
use Rattle.report.proofs.said.Goals as goal

pub returns-in-Done : goal.returns-in-Done
unfolding values said_name said_values said_text
returns-in-Done c = rw c.in-Done.is (at_most c.bytes.ensures (omega arith))

pub returns-in-Sent : goal.returns-in-Sent
unfolding said_name said_values said_text
returns-in-Sent c = rw c.in-Sent.is c.told.ensures

pub returns-in-Received : goal.returns-in-Received
unfolding said_name said_values said_text
returns-in-Received c = rw c.in-Received.is c.told-in-Received.ensures

pub returns-in-ReceivedMarker : goal.returns-in-ReceivedMarker
unfolding values said_name said_values said_text
returns-in-ReceivedMarker c = rw c.in-ReceivedMarker.is (at_most c.bytes-in-ReceivedMarker.ensures (omega arith))

pub returns-in-Refused : goal.returns-in-Refused
unfolding said_name said_values said_text
returns-in-Refused c =
    let number = c.number.type_inv in
    let short = decimal_length 2 c.number.result (omega arith) in
    rw (c.in-Refused.is, ← c.number.ensures) (of_length c.told-in-Refused.ensures (rw values_one (omega arith)))

pub returns-in-PowerLost : goal.returns-in-PowerLost
unfolding values said_name said_values said_text
returns-in-PowerLost c = rw c.in-PowerLost.is (at_most c.bytes-in-PowerLost.ensures (omega arith))
