-- `round::after_copy` meets its contract.
use Rattle.std.proofs.Common.{◌+◌, ◌∙◌, sym, ap, arith}
use Rattle.model.specs.Topology.{is_late}
use Rattle.account.specs.Round as rounds
use Rattle.slow.proofs.Copying.{next_none}
use Rattle.slow.proofs.round.after_copy.Goals as goal

pub returns-then-late : goal.returns-then-late
unfolding is_late
returns-then-late c = rw (← c.late.ensures, c.if-late.true)

pub returns-in-Some : goal.returns-in-Some
unfolding is_late
returns-in-Some c =
    rw (← c.late.ensures, c.if-late.false)
    (c.copying_from.ensures ∙ ap (rounds.copying_from c.args.topology) c.in-Some.ensures.1)

pub returns-in-None : goal.returns-in-None
unfolding is_late
returns-in-None c =
    rw (← c.late.ensures, c.if-late.false)
    (sym (next_none c.args.topology (c.args.process + 1) (omega (arith, c.in-None.ensures))))
