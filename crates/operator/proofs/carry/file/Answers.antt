use Rattle.std.proofs.Common.{◌≡◌, arith, rules}
use Rattle.std.specs.Prelude.{Ok}
use Rattle.operator.proofs.Files.{cells_few, file_of, all_cells}
use Rattle.operator.proofs.Lines.{target_told}
use Rattle.operator.proofs.carry.file.Goals as goal

-- `done`, and all cells
pub returns : goal.returns
returns c =
    let carried : c.carry.result ≡ Ok tt = search rules in
    rw (← file_of c.args.way c.args.bytes.now (rw carried at c.carry.ensures))
    (target_told _ _ c.done-at.ensures
    (all_cells c.args.way _ c.target_cells-count.ensures
    (omega (arith, c.target_cells-count.ensures, cells_few c.args.way, c.carry.auto.target)) c.write.ensures))
