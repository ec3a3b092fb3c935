use Rattle.std.proofs.Common.{◌≡◌, ℕ, List, sym, ap, ◌∙◌}
use mathlib.Core.Option.{some}
use Rattle.model.specs.Record.{read_record}
use Rattle.record.proofs.Answered.{no_record, a_record}
use Rattle.operator.proofs.Listing.{is_empty, not_empty, list_ends, list_breaks, list_goes_on, list_shorter}
use Rattle.operator.proofs.list.read.Goals as goal
use Rattle.operator.proofs.list.read.Goals.{After-rest-left}

-- bytes that aren't a record
pub returns-in_default : goal.returns-in_default
returns-in_default c =
    list_breaks c.loop-left.invariant (not_empty _ c.loop-left-test.ensures)
    (no_record _ (sym c.in_default.ensures))

-- a record was read, and left after it
read : (c : After-rest-left) → read_record c.loop-left.left.now ≡ some (c.in-Ok.call, c.rest-left.result.now)
read c =
    a_record c.loop-left.left.now _ (sym c.in-Ok.ensures)
    ∙ ap (λ (rest : List ℕ). some (c.in-Ok.call, rest)) (sym c.rest-left.ensures)

pub loop-left-smaller : goal.loop-left-smaller
loop-left-smaller c = list_shorter c.loop-left.invariant _ _ (read (goal.at.loop-left-smaller c).After-rest-left)

pub loop-left-preserved : goal.loop-left-preserved
loop-left-preserved c =
    list_goes_on c.loop-left.invariant _ _ (read (goal.at.loop-left-preserved c).After-rest-left) c.add.ensures.held
    c.add.ensures.within c.add.ensures.end

pub returns-after-loop-left : goal.returns-after-loop-left
returns-after-loop-left c = list_ends c.loop-left.invariant (is_empty _ c.loop-left-test.ensures)
