-- The loop's invariant: the lines of the first i calls are printed.
use Rattle.std.proofs.Common.{◌+◌, length, get_or}
use Rattle.report.specs.TextBytes.{line_bytes}
use Rattle.report.proofs.Printing.{Appended}
use Rattle.slow.specs.Replays.{unanswered}
use Rattle.operator.specs.Replaying.{answer_line}
use Rattle.operator.proofs.replay.lines.Given as goal

abbrev pub invariant-loop-i : goal.invariant-loop-i
invariant-loop-i l =
    Appended line_bytes (length l.answers) (λ k. answer_line (k + 1) (get_or l.answers k unanswered)) l.fn.out 0 l.i
    l.out l.next
