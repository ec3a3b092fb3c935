use Rattle.std.proofs.Common.{arith, rules}
use Rattle.report.specs.Hex.{spaced_bytes}
use Rattle.report.proofs.Appending.{◌then◌, at_most}
use Rattle.report.proofs.HexTexts.{spaced_more, hex_none, hex_all}
use Rattle.report.proofs.hex.hex_bytes.Goals as goal

pub returns-in_default : goal.returns-in_default
returns-in_default c = hex_none _ _ _ (search rules)

pub loop-byte-init : goal.loop-byte-init
unfolding spaced_bytes
loop-byte-init c = c.hex_byte-next.ensures

pub loop-byte-preserved : goal.loop-byte-preserved
loop-byte-preserved c =
    let l = c.loop-byte in
    rw (spaced_more _ c.in-Some.others.now l.byte-index (omega arith))
    (at_most (l.invariant then c.bytes-next.ensures then c.hex_byte-next-in-loop-byte.ensures) (omega arith))

pub returns : goal.returns
returns c = hex_all (search rules) (omega arith) c.loop-byte.invariant
