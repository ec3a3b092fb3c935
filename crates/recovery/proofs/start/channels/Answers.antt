use Rattle.std.proofs.Common.{◌≡◌, ◌∙◌, ◌<◌, ℕ, [], replicate, length-set, refl, ap₂, arith}
use Rattle.model.specs.declared.Places.{Places}
use Rattle.model.specs.Channel.{held, entries}
use Rattle.model.specs.State.{no_places}
use Rattle.model.specs.Topology.{channel_limit}
use Rattle.model.specs.Layout.{present}
use Rattle.model.proofs.laws.Functions.{filled_none, filled_both}
use Rattle.model.proofs.store.Readable.{readable}
use Rattle.reading.proofs.Whole.{channel_given}
use Rattle.recovery.proofs.Recovering.{no_entries, channel_of, channels_below}
use Rattle.recovery.proofs.start.channels.Goals.{In-loop-c}
use Rattle.recovery.proofs.start.channels.Goals as goal

-- the channel of a turn has a place
inside : (c : In-loop-c) → c.loop-c.c < channel_limit
inside c =
    omega (arith, c.loop-c-test.true, (readable present c.args.topology c.args.store.now c.requires).sized.channels)

pub loop-c-init : goal.loop-c-init
loop-c-init c =
    record {
      places_length = refl;
      lengths_length = refl;
      filled =
          no_entries (replicate channel_limit c.places-first.result) ∙ filled_none (channel_of c.args.store.now) [];
    }

pub bounds-places-c : goal.bounds-places-c
bounds-places-c c = inside (goal.at.bounds-places-c c).In-loop-c

pub bounds-lengths-c : goal.bounds-lengths-c
bounds-lengths-c c = inside (goal.at.bounds-lengths-c c).In-loop-c

pub loop-c-preserved : goal.loop-c-preserved
loop-c-preserved c =
    let l = c.loop-c in
    let i = l.invariant in
    let st = c.args.store.now in
    let below = inside (goal.at.loop-c-preserved c).In-loop-c in
    let filled : entries (held c.places.result c.used.result) ≡ channel_of st l.c =
    ap₂ (λ (p : Places) (n : ℕ). entries (held p n)) c.places.ensures c.used.ensures
    ∙ channel_given _ c.args.topology _ c.requires _ c.loop-c-test.true c.channel-held.ensures in
    record {
      places_length = simp length-set i.places_length;
      lengths_length = simp length-set i.lengths_length;
      filled =
          filled_both (λ (p : Places) (n : ℕ). entries (held p n)) l.places l.lengths no_places
          c.places.result 0 c.used.result l.c (channel_of st) []
          (omega (arith, i.places_length, below)) (omega (arith, i.lengths_length, below)) i.filled filled;
    }

pub returns : goal.returns
returns c =
    let T = c.args.topology in
    let all : c.loop-c.c ≡ T.channels = omega (arith, c.loop-c.auto.c-end) in
    rw all at c.loop-c.invariant.filled ∙ channels_below T c.args.store.now
