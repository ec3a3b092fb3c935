use Rattle.std.proofs.Common.{◌≡◌, ◌∙◌, arith, rules, get_or, refl, append-nil}
use Rattle.std.proofs.Math.Seq.{take-nil, drop-nil}
use Rattle.model.specs.Channel.{entries}
use Rattle.slow.specs.Seen.{sent_by}
use Rattle.slow.proofs.Filling.{filled_more, counted_more, room_left_lem}
use Rattle.slow.proofs.contents.fill.Goals as goal

pub loop-k-init : goal.loop-k-init
unfolding sent_by
loop-k-init c =
    let a = c.args in
    record {
      few = omega arith;
      counted = refl;
      pushed = rw (take-nil a.to, drop-nil a.from, append-nil (entries a.first)) refl;
    }

pub push-c-requires : goal.push-c-requires
push-c-requires c =
    let a = c.args in
    rw (c.on_channel-on.ensures, c.loop-k.invariant.counted)
    (room_left_lem a.turned a.past a.histories a.p a.channel a.from a.to c.loop-k.k (entries a.first)
    (entries c.loop-k.c) c.loop-k.invariant.pushed (get_or a.histories.counts a.p 0) c.loop-k-test.true c.requires.fits)

pub and_one-seen-requires : goal.and_one-seen-requires
and_one-seen-requires c = omega (arith, c.args.histories.room c.args.p)

pub loop-k-preserved : goal.loop-k-preserved
loop-k-preserved c =
    let a = c.args in
    let l = c.loop-k in
    let counted = counted_more a.turned a.past a.histories a.p a.channel a.from a.to l.k in
    record {
      few = search rules;
      counted = cc;
      pushed = c.push-c.ensures
          ∙ rw (c.kind.ensures, c.is_after.ensures, c.on_channel-on.ensures, l.invariant.counted)
          (filled_more a.turned a.past a.histories a.p a.channel a.from a.to l.k (entries a.first)
          (entries l.c) l.invariant.pushed);
    }

pub returns : goal.returns
returns c =
    let e : c.loop-k.k ≡ get_or c.args.histories.counts c.args.p 0 = omega arith in rw e at c.loop-k.invariant.pushed
