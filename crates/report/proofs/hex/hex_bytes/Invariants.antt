-- The first byte is written, and so many of the others, each after a space.
use Rattle.std.proofs.Common.{◌+◌, ◌*◌, ◌++◌, take}
use Rattle.report.specs.Hex.{hex_byte, spaced_bytes}
use Rattle.report.specs.Appends.{Appends}
use Rattle.report.proofs.hex.hex_bytes.Given as goal

abbrev pub invariant-loop-byte : goal.invariant-loop-byte
invariant-loop-byte l =
    Appends (2 + l.byte-index * 3) l.fn.out l.fn.at (hex_byte l.first ++ spaced_bytes (take l.byte-index l.others))
    l.out l.next
