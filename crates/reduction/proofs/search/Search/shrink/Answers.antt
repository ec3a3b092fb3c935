use Rattle.std.proofs.Common.{arith}
use Rattle.reduction.proofs.Wholes.{first_within, whole_fails}
use Rattle.reduction.proofs.search.Search.shrink.Goals as goal

pub overflow_add-self : goal.overflow_add-self
overflow_add-self c = omega (arith, first_within c.args.self.now)

pub first-whole-requires : goal.first-whole-requires
first-whole-requires c = omega (arith, first_within c.args.self.now)

pub blocks-requires : goal.blocks-requires
blocks-requires c = whole_fails c.args.self.now c.first-whole.ensures
