-- `feed::feed` meets its contract.
use Rattle.std.proofs.Common.{◌≡◌, ◌∙◌, sym, ap, arith}
use Rattle.account.specs.Contents.{history_of, on_deed}
use Rattle.slow.specs.Kept.{latest, deed_at, past_of}
use Rattle.slow.proofs.Pasts.{latest_more}
use Rattle.slow.proofs.Feeding.{fit_at}
use Rattle.slow.proofs.feed.feed.Goals as goal

pub loop-i-init : goal.loop-i-init
unfolding latest history_of
loop-i-init c =
    let first = c.first-now.ensures in
    record { seen = first.seen _; room = λ p. omega (arith, first.empty p) }

pub deed-now-requires : goal.deed-now-requires
unfolding past_of
deed-now-requires c =
    let l = c.loop-i in
    record {
      fits = fit_at c.args.topology c.args.past.count l.i (deed_at c.args.past) c.loop-i-test.true c.requires.0;
      good = c.requires.1;
      room = λ p. omega (arith, l.invariant.room p, c.loop-i-test.true, c.args.past.kept);
    }

pub loop-i-preserved : goal.loop-i-preserved
unfolding history_of
loop-i-preserved c =
    let l = c.loop-i in
    let T = c.args.topology in
    let f = deed_at c.args.past in
    let fed = c.deed-now.ensures in
    record {
      seen = fed.seen ∙ ap (on_deed T (f l.i)) l.invariant.seen ∙ ap (history_of T) (sym (latest_more l.i f));
      room = λ p. omega (arith, fed.grown p, l.invariant.room p);
    }

pub returns : goal.returns
unfolding past_of
returns c =
    let l = c.loop-i in
    let e : l.i ≡ c.args.past.count = omega arith in
    record { seen = rw e at l.invariant.seen }
