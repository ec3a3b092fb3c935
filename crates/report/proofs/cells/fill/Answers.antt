use Rattle.std.proofs.Common.{rules, arith, ◌∙◌, sym}
use Rattle.std.proofs.lemmas.List.{same_lists}
use Rattle.model.proofs.laws.Lists.{tabulate_at}
use Rattle.report.specs.Changed.{start_store}
use Rattle.report.proofs.Changes.{start_length}
use Rattle.report.proofs.cells.fill.Goals as goal

pub returns : goal.returns
unfolding start_store
returns c =
    let made = c.from_fn.ensures.items in
    same_lists _ _ (made.long ∙ sym start_length)
    (λ i d l. let (p, q, e) = made.at i d (omega arith) in search (rules, tabulate_at))
