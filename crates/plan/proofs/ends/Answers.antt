-- An end's byte and its place are there, since the plan's bytes are whole.
use Rattle.std.proofs.Common.{arith}
use Rattle.plan.proofs.Plans.{whole, no_ends, one_end, all_ends}
use Rattle.plan.proofs.ends.Goals as goal

pub bounds-bytes-1 : goal.bounds-bytes-1
bounds-bytes-1 c = omega (arith, whole c.args.bytes.now c.requires.0)

pub loop-c-init : goal.loop-c-init
loop-c-init c = no_ends

pub bounds-bytes-first : goal.bounds-bytes-first
bounds-bytes-first c = omega (arith, whole c.args.bytes.now c.requires.0)

pub bounds-r-c : goal.bounds-r-c
bounds-r-c c = omega (arith, whole c.args.bytes.now c.requires.0)

pub loop-c-preserved : goal.loop-c-preserved
loop-c-preserved c = one_end c.loop-c.invariant (omega arith) (omega (arith, whole c.args.bytes.now c.requires.0))

pub returns : goal.returns
returns c = all_ends c.loop-c.invariant (omega arith)
