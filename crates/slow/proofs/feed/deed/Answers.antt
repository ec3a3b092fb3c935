-- `feed::deed` meets its contract.
use Rattle.std.proofs.Common.{arith, rules}
use Rattle.model.specs.Topology.{sender}
use Rattle.model.proofs.laws.TopologyLaws.{accepted_sizes}
use Rattle.account.specs.Contents.{on_deed}
use Rattle.slow.proofs.Feeding.{ends_fit, follows}
use Rattle.slow.proofs.feed.deed.Goals as goal

pub add-requires : goal.add-requires
unfolding sender
add-requires c =
    let fit = ends_fit c.args.topology c.requires.good _ (c.requires.fits.sends (rw c.in-1.is)) in
    (rw c.at.ensures fit.0, c.requires.room _)

pub mark-requires : goal.mark-requires
mark-requires c =
    let planned = c.requires.fits.marks (rw c.in-5.is) in
    omega (arith, (accepted_sizes _ c.requires.good).processes, planned)

pub returns-in-1 : goal.returns-in-1
unfolding on_deed sender
returns-in-1 c = follows c.add.ensures (rw (c.at.ensures, c.in-1.is))

pub returns-in-2 : goal.returns-in-2
unfolding on_deed
returns-in-2 c =
    let fed = c.receive.ensures in
    record { seen = rw c.in-2.is fed.seen; grown = fed.grown }

pub returns-in-5 : goal.returns-in-5
unfolding on_deed
returns-in-5 c = follows c.mark.ensures.0 (rw c.in-5.is)

pub returns-in-7 : goal.returns-in-7
unfolding on_deed
returns-in-7 c = follows c.commit.ensures (rw c.in-7.is)

pub returns-in-8 : goal.returns-in-8
unfolding on_deed
returns-in-8 c = follows c.forget.ensures (rw c.in-8.is)

pub returns-in-9 : goal.returns-in-9
unfolding on_deed
returns-in-9 c = follows c.recover.ensures (rw c.in-9.is)

pub returns-in_default : goal.returns-in_default
unfolding on_deed
returns-in_default c =
    record { seen = search rules; grown = λ p. omega arith }
