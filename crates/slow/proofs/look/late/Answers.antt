-- `look::late` meets its contract.
use Rattle.std.proofs.Common.{arith, rules}
use Rattle.model.proofs.laws.Bits.{bit_beyond}
use Rattle.slow.proofs.look.late.Goals as goal

pub returns-else-p-lt-PROCESSES : goal.returns-else-p-lt-PROCESSES
returns-else-p-lt-PROCESSES c = rw (bit_beyond c.args.map 16 c.args.p (omega arith) (omega arith)) (search rules)
