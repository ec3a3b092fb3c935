use Rattle.std.proofs.Common.{◌≡◌, ◌≤◌, [], ◌∷◌, ◌++◌, length, sym, ◌∙◌, add-one, arith, rules}
use Rattle.std.proofs.Common.{length-append, length-take}
use Rattle.std.proofs.lemmas.List.{take_all, take-append-le}
use lib.Seq.{take-suc-set}
use Rattle.operator.specs.Lists.{held}
use Rattle.operator.proofs.list.add.Goals as goal

-- with room for the call, and without
pub returns-then-list-lt-PLACES-clause-held : goal.returns-then-list-lt-PLACES-clause-held
returns-then-list-lt-PLACES-clause-held c =
    let list = c.args.list.now in
    let places : length list.calls ≡ 257 = search rules in
    let few : length (held list ++ (c.args.call ∷ [])) ≤ 257 =
    rw (length-append (held list) (c.args.call ∷ []), length-take) (omega arith) in
    rw (add-one, take_all 257 _ few) (take-suc-set list.calls list.count c.args.call (omega arith))

pub returns-else-list-lt-PLACES-clause-held : goal.returns-else-list-lt-PLACES-clause-held
returns-else-list-lt-PLACES-clause-held c =
    let list = c.args.list.now in
    let places : length list.calls ≡ 257 = search rules in
    let full : length (held list) ≡ 257 = rw length-take (omega arith) in
    sym (take-append-le 257 (held list) (c.args.call ∷ []) (omega arith) ∙ take_all 257 (held list) (omega arith))
