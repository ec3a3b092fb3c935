use Rattle.std.proofs.Common.{◌≡◌, length, arith, append-nil, append_assoc}
use lib.Seq.{take-length}
use Rattle.report.specs.Text.{values}
use Rattle.report.proofs.Appending.{◌then◌, at_most}
use Rattle.report.proofs.Texts.{values_more}
use Rattle.report.proofs.named.Goals as goal

pub loop-n-init : goal.loop-n-init
unfolding values
loop-n-init c = rw append-nil (at_most c.bytes-next.ensures (omega arith))

pub loop-n-preserved : goal.loop-n-preserved
loop-n-preserved c =
    let l = c.loop-n in
    rw (values_more c.args.numbers.now l.n-index (omega arith), ← append_assoc c.args.name.now)
    (at_most (l.invariant then c.value-next.ensures) (omega arith))

pub returns : goal.returns
returns c =
    let all : c.loop-n.n-index ≡ length c.args.numbers.now = omega arith in
    (rw (all, take-length c.args.numbers.now) at c.loop-n.invariant) then c.bytes.ensures
