use Rattle.std.proofs.Common.{arith, rules}
use Rattle.session.proofs.Sessions.{ends, breaks, fewer_left, goes_on}
use Rattle.session.proofs.serve.requests.Goals as goal

pub loop-left-init : goal.loop-left-init
loop-left-init c =
    record {
      lines = omega (arith, c.requires);
      are_bytes = λ i. omega (arith, c.type_inv.bytes i);
      leads = λ after r s left p. p;
    }

pub loop-left-smaller : goal.loop-left-smaller
loop-left-smaller c = fewer_left c.loop-left.invariant c.in-Some.ensures

pub loop-left-preserved : goal.loop-left-preserved
loop-left-preserved c = goes_on c.loop-left.invariant c.in-Some.ensures c.serve-cursor.ensures

pub returns-after-loop-left : goal.returns-after-loop-left
returns-after-loop-left c = ends c.loop-left.invariant (search rules)

pub returns-in_default : goal.returns-in_default
returns-in_default c = breaks c.loop-left.invariant (search rules) c.in_default.ensures c.outcome_line.ensures
