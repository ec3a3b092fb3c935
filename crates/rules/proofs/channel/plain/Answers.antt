-- `rules::channel::plain`: a message goes behind no more than i others, with tag 0; a marker goes nowhere.
use Rattle.std.proofs.Common.{◌≡◌, false, sym, refl, ◌∙◌, arith, rules}
use Rattle.model.specs.Notation.{tabulate}
use Rattle.model.specs.Channel.{entries, bodies, messages}
use Rattle.model.proofs.laws.ChannelLaws.{bodies_below, message_more, marker_more, messages_append}
use Rattle.rules.proofs.Putting.{put_plain}
use Rattle.rules.proofs.channel.plain.Goals as goal
use Rattle.rules.proofs.channel.plain.Goals.{in-Message, in_default}

pub loop-i-init : goal.loop-i-init
unfolding entries tabulate messages bodies
loop-i-init c = rw c.empty-r.ensures (record { few = omega arith; plain = refl })

pub loop-i-preserved : goal.loop-i-preserved
unfolding messages
loop-i-preserved c =
    let l = c.loop-i in
    let from = c.args.c in
    elim c.match-entry_at.branch [
      | in-Message w ↦
          let stood = sym w.in-Message.is ∙ c.entry_at.ensures in
          rw w.r-is (record {
            few = omega (arith, w.extend-r.ensures.1);
            plain =
                w.extend-r.ensures.0
                ∙ simp (
                  put_plain from (search rules) (search rules) _ l.i l.invariant.few stood,
                  l.invariant.plain,
                  message_more from l.i stood,
                )
                (sym (messages_append false (bodies_below l.i from) _));
          })
      | in_default w ↦
          rw w.r-is (record {
            few = omega arith;
            plain = l.invariant.plain ∙ rw (marker_more from l.i (sym w.in_default.is ∙ c.entry_at.ensures));
          })
    ]

pub returns : goal.returns
unfolding entries
returns c = let e : c.loop-i.i ≡ c.args.c.count = omega arith in rw e at c.loop-i.invariant.plain
