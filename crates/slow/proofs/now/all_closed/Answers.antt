-- `now::all_closed` meets its contract.
use Rattle.std.proofs.Common.{◌∙◌, refl, arith, rules, tests, ℕ, get_or, false}
use Rattle.std.proofs.lemmas.Iterator.{YieldsList-from_range}
use Rattle.std.proofs.lemmas.Iterator.Search.{all_from_yields_List}
use Rattle.model.specs.State.{view, view_progress}
use Rattle.slow.proofs.Below.{all_is}
use Rattle.slow.proofs.now.all_closed.Goals as goal

pub returns : goal.returns
unfolding view view_progress
returns c =
    let test = λ (i : ℕ). get_or c.args.s.flags.closed i false in
    let n = c.args.s.topology.channels in
    all_from_yields_List test _ _ _ c.all.ensures.ran (YieldsList-from_range 0 n n refl (omega arith))
    (λ x b q k. search (rules, tests))
    ∙ all_is test n
