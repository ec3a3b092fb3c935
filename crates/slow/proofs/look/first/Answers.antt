-- `look::first` meets its contract.
use Rattle.std.proofs.Common.{◌∙◌, sym, arith}
use Rattle.model.specs.State.{no_places}
use Rattle.slow.proofs.FirstEntry.{first_none, first_some}
use Rattle.slow.proofs.look.first.Goals as goal

pub returns-then-at-eq0 : goal.returns-then-at-eq0
returns-then-at-eq0 c = c.entry.ensures ∙ sym (first_none c.args.places c.args.lengths c.args.c (cc))

pub returns : goal.returns
unfolding no_places
returns c =
    let first = first_some c.args.places c.args.lengths c.args.c (omega arith) in
    rw c.at-held.ensures at c.entry-2.ensures ∙ sym first
