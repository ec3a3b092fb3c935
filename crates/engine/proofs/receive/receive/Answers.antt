-- `engine::receive::receive`: refused with 10, 14 or 11, cut, or received.
use Rattle.std.proofs.Common.{◌≡◌, true, ◌&&◌, sym, ◌∙◌, arith}
use Rattle.model.specs.declared.Step.TheVariants.{Receive}
use Rattle.model.proofs.laws.ChannelLaws.{entries_count}
use Rattle.engine.proofs.Turning.{Passes, turns_refused, turns_lost}
use Rattle.engine.proofs.ReceiveMeets.{receive_fits, empty, Decided, checks, writes, receive_went}
use Rattle.engine.proofs.receive.receive.Goals as goal
use Rattle.engine.proofs.receive.receive.Goals.{After-react-x, Else-full}

-- the reaction is decided
decided : (c : After-react-x) → Decided c.args.s c.entry_at-e.result c.react-x.result
decided c =
    record {
      there = omega (arith, c.if-length-eq0.false, c.length.ensures, entries_count c.args.s.held);
      entry = c.entry_at-e.ensures;
      reaction = rw c.receiver.ensures at c.react-x.ensures;
    }

pub returns-then-length-eq0 : goal.returns-then-length-eq0
returns-then-length-eq0 c =
    turns_refused _ _ _ _ _ (λ g v. empty _ g v (sym c.length.ensures ∙ c.if-length-eq0.true))

pub returns-then-x-s : goal.returns-then-x-s
returns-then-x-s c =
    let again : (c.react-x.result.closes && c.args.s.closed) ≡ true = c.if-x-s.true in
    turns_refused _ _ _ _ _ (λ g v. checks (decided (goal.at.returns-then-x-s c).After-react-x) g v ∙ rw again)

pub returns-then-full : goal.returns-then-full
returns-then-full c =
    turns_refused _ _ _ _ _
    (λ g v. checks (decided (goal.at.returns-then-full c).After-react-x) g v
    ∙ rw (c.if-x-s.false, sym c.full.ensures ∙ c.if-full.true))

-- nothing turns it down
may : (c : Else-full) → Passes c.args.s (Receive c.args.s.channel)
may c g v =
    checks (decided (goal.at.Else-full c).After-react-x) g v ∙ rw (c.if-x-s.false, sym c.full.ensures ∙ c.if-full.false)

pub log-needed-requires : goal.log-needed-requires
log-needed-requires c =
    (receive_fits c.args.s c.requires.0, sym c.full.ensures ∙ c.if-full.false, c.requires.1)

pub returns-then-budget-needed : goal.returns-then-budget-needed
returns-then-budget-needed c =
    let at = goal.at.returns-then-budget-needed c in
    turns_lost _ _ _ _ (may at.Else-full) _ _ c.log-needed.ensures.store
    (λ g v. writes (decided at.After-react-x) g v c.receipt.ensures)
    (rw c.log-needed.ensures.needed at c.if-budget-needed.true)

pub after-requires : goal.after-requires
after-requires c = receive_fits c.args.s c.requires.0

pub returns : goal.returns
returns c =
    let at = goal.at.returns c in
    rw c.new.ensures
    (receive_went (decided at.After-react-x) (may at.Else-full) c.receipt.ensures c.log-needed.ensures
    c.if-budget-needed.false c.outcome.ensures c.after.ensures)
