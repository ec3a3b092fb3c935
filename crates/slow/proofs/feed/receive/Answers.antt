-- `feed::receive` meets its contract.
use Rattle.std.proofs.Common.{refl}
use Rattle.model.specs.Topology.{receiver}
use Rattle.account.specs.Contents.{on_receipt}
use Rattle.slow.specs.Kept.{deed_at}
use Rattle.slow.specs.Seen.{history_seen}
use Rattle.slow.proofs.Feeding.{ends_fit, follows, receives_body}
use Rattle.slow.proofs.feed.receive.Goals as goal

pub after_mark-after-requires : goal.after_mark-after-requires
after_mark-after-requires c =
    let may = c.requires.1 in
    let fit = ends_fit c.args.topology may.good _ (may.fits.receives c.requires.0) in
    fit

pub mark_unmarked-now-requires : goal.mark_unmarked-now-requires
unfolding receiver
mark_unmarked-now-requires c =
    let may = c.requires.1 in
    rw c.at-p.ensures (ends_fit c.args.topology may.good _ (may.fits.receives c.requires.0)).1

pub returns-then-d : goal.returns-then-d
unfolding on_receipt receiver
returns-then-d c = follows c.mark_unmarked-now.ensures.0 (rw (c.at-p.ensures, c.if-d.true))

pub add-requires : goal.add-requires
unfolding receiver
add-requires c =
    let may = c.requires.1 in
    let marked = c.mark_unmarked-now.ensures in (
      rw c.at-p.ensures (ends_fit c.args.topology may.good _ (may.fits.receives c.requires.0)).1,
      rw marked.1 (may.room _),
    )

pub returns : goal.returns
unfolding receiver
returns c =
    let f = deed_at c.args.past in
    record {
      seen = receives_body c.args.topology (f c.args.i) (history_seen f c.args.histories) _ _ _ _ _ c.requires.0
          c.if-d.false
          c.at-p.ensures c.after_mark-after.ensures refl (c.mark_unmarked-now.ensures.0.seen f) (c.add.ensures.seen f);
      grown = λ p. rw c.mark_unmarked-now.ensures.1 at (c.add.ensures.grown p);
    }
