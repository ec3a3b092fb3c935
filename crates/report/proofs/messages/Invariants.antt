-- n messages stand in the first i places.
use Rattle.std.proofs.Common.{◌≡◌, ◌≤◌, length}
use Rattle.model.proofs.laws.ChannelLaws.{bodies_below}
use Rattle.report.proofs.messages.Given as goal

abbrev pub invariant-loop-i : goal.invariant-loop-i
invariant-loop-i l = record { few : l.n ≤ l.i; messages : l.n ≡ length (bodies_below l.i l.c) }
