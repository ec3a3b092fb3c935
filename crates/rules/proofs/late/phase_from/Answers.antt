-- `rules::late::phase_from`: the process at hand is early, or all are late.
use Rattle.std.proofs.Common.{sym, ◌∙◌, arith}
use Rattle.model.proofs.laws.TopologyLaws.{early_at, early_none}
use Rattle.rules.specs.Late.{phase_at}
use Rattle.rules.proofs.late.phase_from.Goals as goal

pub returns-then-not-is_late : goal.returns-then-not-is_late
unfolding phase_at
returns-then-not-is_late c =
    let l = c.loop-p in
    rw (early_at _ _ _ l.p l.invariant (omega arith) c.loop-p-test.true (sym c.is_late.ensures ∙ c.if-not-is_late.true))

pub returns : goal.returns
unfolding phase_at
returns c = rw (early_none c.args.processes c.args.late c.args.from c.loop-p.p c.loop-p.invariant (omega arith))
