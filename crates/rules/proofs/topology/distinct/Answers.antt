-- `rules::topology::distinct`: both ends of each channel are processes, so the table has a place for them.
use Rattle.std.proofs.Common.{◌≡◌, ℕ, ◌<◌, ◌≤◌, true, ◌&&◌, get_or, ap₂, arith, rules, add-one}
use Rattle.model.specs.declared.Topology.{Topology}
use Rattle.model.specs.Notation.{all_below}
use Rattle.model.specs.Topology.{process_limit, channel_limit, sender, receiver}
use Rattle.model.proofs.laws.Lists.{all_at}
use Rattle.rules.specs.Ends.{joins_two}
use Rattle.rules.proofs.EndsPass.{ends_known}
use Rattle.rules.proofs.EndsSeen.{seen_none, seen_next, told}
use Rattle.rules.proofs.topology.distinct.Goals as goal

ends : (t : Topology)
    → (t.processes ≤ process_limit) × (t.channels ≤ channel_limit) × (all_below t.channels (joins_two t) ≡ true)
    → (c : ℕ) → c < t.channels → (get_or t.from c 0 < process_limit) × (get_or t.to c 0 < process_limit)
unfolding sender receiver
ends t r c l =
    let (from, to) = ends_known t c (all_at t.channels (joins_two t) r.2 c l) in
    (omega (arith, from, r.0), omega (arith, to, r.0))

pub loop-c-init : goal.loop-c-init
unfolding all_below
loop-c-init c = record { says = search rules; seen = seen_none c.args.t }

pub place-at-requires : goal.place-at-requires
place-at-requires c = ends c.args.t c.requires c.loop-c.c c.loop-c-test.true

pub bounds-seen-at : goal.bounds-seen-at
bounds-seen-at c = omega (arith, ends c.args.t c.requires c.loop-c.c c.loop-c-test.true)

pub bounds-seen-at-in-loop-c : goal.bounds-seen-at-in-loop-c
bounds-seen-at-in-loop-c c = bounds-seen-at c

pub loop-c-preserved : goal.loop-c-preserved
unfolding all_below sender receiver
loop-c-preserved c =
    let l = c.loop-c in
    let (from, to) = ends c.args.t c.requires l.c c.loop-c-test.true in
    rw c.place-at.ensures (record {
      says = rw add-one (ap₂ ◌&&◌ l.invariant.says (told l.invariant.seen from to));
      seen = seen_next l.invariant.seen from to;
    })
