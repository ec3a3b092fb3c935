use Rattle.std.proofs.Common.{◌≡◌, sym, arith, ◌∙◌}
use Rattle.model.specs.Notation.{tabulate}
use Rattle.model.specs.Channel.{entries, bodies}
use Rattle.model.proofs.laws.ChannelLaws.{entries_count, message_more, marker_more}
use Rattle.report.specs.Text.{values}
use Rattle.report.proofs.Appending.{nothing, ◌then◌, at_most}
use Rattle.report.proofs.Texts.{values_append}
use Rattle.report.proofs.bodies.Goals as goal
use Rattle.report.proofs.bodies.Goals.{in-Message, in_default}

pub loop-i-init : goal.loop-i-init
unfolding tabulate bodies values
loop-i-init c = nothing _ _

pub loop-i-preserved : goal.loop-i-preserved
loop-i-preserved c =
    let l = c.loop-i in
    let from = c.args.c in
    let here = c.entry_at.ensures in
    elim c.match-entry_at.branch [
      | in-Message w ↦
          rw (message_more from l.i (sym w.in-Message.is ∙ here), values_append, w.out-is, w.next-is)
          (at_most (l.invariant then w.value-next.ensures) (omega arith))
      | in_default w ↦
          rw (marker_more from l.i (sym w.in_default.is ∙ here), w.out-is, w.next-is)
          (at_most l.invariant (omega arith))
    ]

pub returns : goal.returns
unfolding entries
returns c =
    let from = c.args.c in
    let all : c.loop-i.i ≡ from.count = omega (arith, c.length-i-end.ensures, entries_count from) in
    rw (entries_count from) (rw all at c.loop-i.invariant)
