-- `round::copying_from` meets its contract.
use Rattle.std.proofs.Common.{◌≡◌, ◌∙◌, ◌-◌, refl, not, rules, tests}
use Rattle.std.specs.Option.{option_map_or}
use Rattle.std.proofs.lemmas.Iterator.{YieldsList-from_range}
use Rattle.std.proofs.lemmas.Iterator.Search.{find_from_yields_List}
use Rattle.model.specs.declared.Phase.TheVariants.{Physical, Logical}
use Rattle.model.specs.Topology.{is_late}
use Rattle.account.specs.Round.{copying_from}
use Rattle.slow.proofs.Copying.{found_next}
use Rattle.slow.proofs.round.copying_from.Goals as goal

pub returns : goal.returns
unfolding copying_from is_late
returns c =
    let T = c.args.topology in
    let from = c.args.from in
    let found = find_from_yields_List (λ p. not (is_late T p)) _ _ _ c.find.ensures.ran
    (YieldsList-from_range from T.processes (T.processes - from) refl refl) (λ x b q k. search (rules, tests)) in
    let e : c.map_or.result ≡ option_map_or Physical c.find.result Logical = search rules in
    e ∙ found_next T (T.processes - from) from c.find.result found
