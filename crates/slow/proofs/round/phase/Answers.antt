-- `round::phase` meets its contract.
use Rattle.std.proofs.Common.{◌∙◌, refl, ap, rules, tests, []}
use Rattle.std.proofs.lemmas.Iterator.{YieldsList-from_slice}
use Rattle.std.proofs.lemmas.Iterator.Consumers.{fold_from_yields_List}
use Rattle.model.specs.declared.Phase.TheVariants.{Idle}
use Rattle.account.specs.Round.{phase_of, phase_after}
use Rattle.slow.proofs.Pasts.{fold_tells}
use Rattle.slow.proofs.round.phase.Goals as goal

pub returns : goal.returns
unfolding phase_of
returns c =
    let T = c.args.topology in
    fold_from_yields_List _ (λ phase d. phase_after T d phase) Idle _ c.fold.ensures.ran
    (YieldsList-from_slice c.done.result.now (cc)) (λ a x b q k. search (rules, tests))
    ∙ fold_tells (λ phase d. phase_after T d phase) (phase_of T) (λ d ds. refl) c.done.result.now []
    ∙ ap (phase_of T) c.done.ensures.0
