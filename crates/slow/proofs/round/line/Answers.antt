-- `round::line` meets its contract.
use Rattle.std.proofs.Common.{◌≡◌, ◌∙◌, rules}
use Rattle.std.specs.List.{count_by}
use Rattle.account.specs.Deeds.{did}
use Rattle.account.specs.Round.{line_of}
use Rattle.slow.proofs.Pasts.{number_told}
use Rattle.slow.proofs.round.line.Goals as goal

pub returns : goal.returns
unfolding line_of
returns c =
    let counted : c.count.result ≡ count_by (did 7) c.done.result.now = search rules in
    counted ∙ number_told (did 7) c.done.result.now c.done.ensures.0
