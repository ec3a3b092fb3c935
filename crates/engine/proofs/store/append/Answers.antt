-- `engine::store::append`: no write, or the entry's, then the count's.
use Rattle.std.proofs.Common.{arith}
use Rattle.model.specs.Write.{append_writes}
use Rattle.engine.proofs.Stores.{none_spent, spent_then, spent_length}
use Rattle.engine.proofs.store.append.Goals as goal

pub put-requires : goal.put-requires
put-requires c = omega (arith, c.requires c.if-not-needed.false, spent_length c.put_all-left.ensures)

pub returns-then-not-needed : goal.returns-then-not-needed
returns-then-not-needed c = rw c.if-not-needed.true (none_spent _ _)

pub returns : goal.returns
unfolding append_writes
returns c = rw c.if-not-needed.false (spent_then c.put_all-left.ensures c.put.ensures)
