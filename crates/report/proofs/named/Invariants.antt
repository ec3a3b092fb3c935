-- The name and the first numbers are written.
use Rattle.std.proofs.Common.{◌+◌, ◌*◌, ◌++◌, length, take}
use Rattle.report.specs.Text.{values}
use Rattle.report.specs.TextBytes.{value_bytes}
use Rattle.report.specs.Appends.{Appends}
use Rattle.report.proofs.named.Given as goal

abbrev pub invariant-loop-n : goal.invariant-loop-n
invariant-loop-n l =
    Appends (length l.name + l.n-index * value_bytes) l.fn.out l.fn.at (l.name ++ values (take l.n-index l.numbers))
    l.out l.next
