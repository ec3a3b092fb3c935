-- `round::turned` meets its contract.
use Rattle.std.proofs.Common.{◌∙◌, refl, ap, rules, tests, false, []}
use Rattle.std.proofs.lemmas.Iterator.{YieldsList-from_slice}
use Rattle.std.proofs.lemmas.Iterator.Consumers.{fold_from_yields_List}
use Rattle.account.specs.Round.{turned, turned_after}
use Rattle.slow.proofs.Pasts.{fold_tells}
use Rattle.slow.proofs.round.turned.Goals as goal

pub returns : goal.returns
unfolding turned
returns c =
    fold_from_yields_List _ (λ tag d. turned_after d tag) false _ c.fold.ensures.ran
    (YieldsList-from_slice c.done.result.now (cc)) (λ a x b q k. search (rules, tests))
    ∙ fold_tells (λ tag d. turned_after d tag) turned (λ d ds. refl) c.done.result.now [] ∙ ap turned c.done.ensures.0
