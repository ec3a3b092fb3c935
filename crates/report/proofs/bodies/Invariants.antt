-- The bodies of the messages in the first i places are written.
use Rattle.std.proofs.Common.{◌*◌}
use Rattle.model.proofs.laws.ChannelLaws.{bodies_below}
use Rattle.report.specs.Text.{values}
use Rattle.report.specs.TextBytes.{value_bytes}
use Rattle.report.specs.Appends.{Appends}
use Rattle.report.proofs.bodies.Given as goal

abbrev pub invariant-loop-i : goal.invariant-loop-i
invariant-loop-i l = Appends (l.i * value_bytes) l.initial.out l.fn.at (values (bodies_below l.i l.c)) l.out l.next
