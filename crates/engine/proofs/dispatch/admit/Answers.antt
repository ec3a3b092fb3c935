-- `engine::dispatch::admit`: 15 and 6, each where those before it are not; past both, the topology's channels are
-- within the arrays. The first two are written out, so that a fault here is refused beside one in `find`
-- (must-fail/deeds_gone_wrong.edit).
use Rattle.std.proofs.Common.{◌<◌, sym, ◌∙◌, lt-ltb}
use Rattle.model.specs.Layout.{store_cells}
use Rattle.engine.proofs.Bounds.{sizes_fit}
use Rattle.engine.proofs.dispatch.admit.Goals as goal

pub returns-then-not-sound : goal.returns-then-not-sound
returns-then-not-sound c = rw (sym c.sound.ensures ∙ c.if-not-sound.true)

pub returns-then-cells-lt-STORE_CELLS : goal.returns-then-cells-lt-STORE_CELLS
returns-then-cells-lt-STORE_CELLS c =
    let short : c.args.cells < store_cells = c.if-cells-lt-STORE_CELLS.true in
    rw (sym c.sound.ensures ∙ c.if-not-sound.false, lt-ltb _ _ short)

pub find-requires : goal.find-requires
find-requires c = (sizes_fit _ (sym c.sound.ensures ∙ c.if-not-sound.false)).channels
