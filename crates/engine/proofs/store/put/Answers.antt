-- `engine::store::put`: no write without budget, and else one.
use Rattle.std.proofs.Common.{refl, arith}
use Rattle.model.specs.Write.{write, write_all}
use Rattle.engine.proofs.Stores.{one_spent}
use Rattle.engine.proofs.store.put.Goals as goal

pub returns-then-budget-eq0 : goal.returns-then-budget-eq0
unfolding write_all
returns-then-budget-eq0 c = rw c.if-budget-eq0.true (record { store = refl; left = refl })

pub returns : goal.returns
unfolding write
returns c = one_spent _ _ _ (omega (arith, c.if-budget-eq0.false))
