use Rattle.std.proofs.Common.{◌≡◌, ◌<◌, refl, sym, ap, ◌∙◌, arith}
use mathlib.Core.Option.{some}
use borrow.Author.Tests.{eq-eqb, ne_eqb}
use Rattle.model.specs.Reduction.{calls_at}
use Rattle.model.specs.CallList.{first_failure}
use Rattle.reduction.specs.Parts.{kept}
use Rattle.reduction.specs.Replays.{failure_of, failure_in, ends_with}
use Rattle.reduction.proofs.Parts.{calls_length}
use Rattle.reduction.proofs.Wholes.{place_within}
use Rattle.reduction.proofs.Shrinking.{same_number}
use Rattle.reduction.proofs.search.Search.fails.Goals as goal
use Rattle.reduction.proofs.search.Search.fails.Goals.{In-Some}

module _ (c : In-Some) where
  -- a refused call is the first failure, and one of the part's
  found : first_failure c.args.self.now.topology (calls_at c.args.self.now.list.now (kept c.args.part))
      ≡ some (failure_of c.in-Some.end)
  unfolding first_failure
  found = sym c.replay.ensures.end ∙ ap failure_in c.in-Some.is

  within : c.in-Some.end.place < c.args.part.count
  within = rw (calls_length c.requires c.args.self.now.list.now) at (place_within _ _ _ found)

pub overflow_add-end : goal.overflow_add-end
overflow_add-end c = let d = (goal.at.overflow_add-end c).In-Some in omega (arith, within d, c.requires.within)

pub returns-then-end-part : goal.returns-then-end-part
unfolding ends_with
returns-then-end-part c =
    rw (found (goal.at.returns-then-end-part c).In-Some, eq-eqb _ _ c.if-end-part.true, c.eq.ensures)
    (same_number c.in-Some.end.refusal c.args.self.now.first.refusal)

pub returns-else-end-part : goal.returns-else-end-part
unfolding ends_with
returns-else-end-part c = rw (found (goal.at.returns-else-end-part c).In-Some, ne_eqb _ _ c.if-end-part.false)

pub returns-in-None : goal.returns-in-None
unfolding ends_with first_failure
returns-in-None c = rw (sym c.replay.ensures.end ∙ ap failure_in c.in-None.is) refl
