-- `histories::mark_unmarked` meets its contract.
use Rattle.std.proofs.Common.{refl, sym, ◌∙◌}
use Rattle.slow.proofs.Changes.{same_histories, becomes_otherwise, stays_marked, gets_marked}
use Rattle.slow.proofs.histories.mark_unmarked.Goals.{then-not-yes-via-then-not-yes}
use Rattle.slow.proofs.histories.mark_unmarked.Goals.{then-not-yes-via-else-not-yes+then-marked}
use Rattle.slow.proofs.histories.mark_unmarked.Goals as goal

pub returns-then-not-yes : goal.returns-then-not-yes
returns-then-not-yes c =
    let b = c.args.histories in
    elim c.then-not-yes.branch [
      | then-not-yes-via-then-not-yes w ↦
          (same_histories b _ (λ f. rw w.if-not-yes.true), refl)
      | then-not-yes-via-else-not-yes+then-marked w ↦ (
        same_histories b _
            (λ f. rw w.if-not-yes.false (sym (stays_marked f b c.args.p (sym w.marked.ensures ∙ w.if-marked.true)))),
        refl,
      )
    ]

pub returns : goal.returns
returns c =
    let none = sym c.marked.ensures ∙ c.if-marked.false in (
      becomes_otherwise c.mark.ensures.0
          (λ f. rw c.if-not-yes.false (sym (gets_marked f _ c.args.p none))),
      c.mark.ensures.1,
    )
