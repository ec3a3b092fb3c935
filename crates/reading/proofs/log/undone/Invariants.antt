-- The loop of `log::undone`: an undoing by a running index, the last entry first.
use Rattle.std.proofs.Common.{◌+◌}
use Rattle.model.specs.Word.{leave}
use Rattle.model.specs.Form.{cell}
use Rattle.model.specs.Layout.{message_entry_cells}
use Rattle.model.proofs.store.LogUndo.{LogUndo}
use Rattle.reading.proofs.log.undone.Given as goal

abbrev pub invariant-loop : goal.invariant-loop
invariant-loop l =
    LogUndo leave l.store message_entry_cells (l.at + 1) (cell l.store (l.at + 1)) (cell l.store l.at) l.entry l.word
    l.counter
