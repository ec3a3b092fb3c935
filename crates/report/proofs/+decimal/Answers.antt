use Rattle.std.proofs.Common.{arith, [], ◌/◌}
use Rattle.report.specs.Appends.{Appends}
use Rattle.report.specs.Text.{decimal}
use Rattle.report.specs.TextBytes.{number_bytes}
use Rattle.report.proofs.Appending.{nothing, ◌then◌, of_length}
use Rattle.report.proofs.Texts.{decimal_one, decimal_more, decimal_length}
use Rattle.report.proofs.+decimal.Goals as goal
use Rattle.report.proofs.+decimal.Goals.{then-n-lt10, else-n-lt10}

-- the last digit, alone or after the others
pub returns : goal.returns
returns t c =
    let joined = c.if-n-lt10 in
    let n = c.args.n in
    let few = decimal_length 9 n (omega arith) in
    elim joined.branch [
      | then-n-lt10 w ↦
          let text = decimal_one n w.if-n-lt10.true in
          let none : Appends 0 c.args.out.now c.args.at [] joined.out joined.next =
          rw (w.out-is, w.next-is) (nothing c.args.out.now c.args.at) in
          rw text (of_length (none then c.bytes.ensures) (rw text at few))
      | else-n-lt10 w ↦
          let text = decimal_more n w.if-n-lt10.false in
          let others : Appends number_bytes c.args.out.now c.args.at (decimal (n / 10)) joined.out joined.next =
          rw (w.out-is, w.next-is) w.decimal-next.ensures in
          rw text (of_length (others then c.bytes.ensures) (rw text at few))
    ]
