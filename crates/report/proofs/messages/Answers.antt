use Rattle.std.proofs.Common.{◌≡◌, refl, sym, ap, arith, ◌∙◌, length, length-append}
use Rattle.model.specs.Notation.{tabulate}
use Rattle.model.specs.Channel.{entries, bodies}
use Rattle.model.proofs.laws.ChannelLaws.{bodies_below, entries_count, message_more, marker_more}
use Rattle.report.proofs.messages.Goals as goal
use Rattle.report.proofs.messages.Goals.{in-Message, in_default}

pub loop-i-init : goal.loop-i-init
unfolding tabulate bodies
loop-i-init c = record { few = omega arith; messages = refl }

pub loop-i-preserved : goal.loop-i-preserved
loop-i-preserved c =
    let i = c.loop-i.i in
    let from = c.args.c in
    let here = c.entry_at.ensures in
    elim c.match-entry_at.branch [
      | in-Message w ↦
          let more = message_more from i (sym w.in-Message.is ∙ here) in
          let one = ap length more ∙ length-append (bodies_below i from) _ in
          record { few = omega (arith, w.n-is); messages = omega (arith, w.n-is, one) }
      | in_default w ↦
          let same = marker_more from i (sym w.in_default.is ∙ here) in
          record { few = omega (arith, w.n-is); messages = w.n-is ∙ rw same c.loop-i.invariant.messages }
    ]

pub returns : goal.returns
unfolding entries
returns c =
    let from = c.args.c in
    let all : c.loop-i.i ≡ from.count = omega (arith, c.length-i-end.ensures, entries_count from) in
    rw all at c.loop-i.invariant.messages
