-- The loop of `log::replayed`: a replay by a running index.
use Rattle.std.proofs.Common.{◌+◌}
use Rattle.model.specs.Form.{cell}
use Rattle.model.proofs.store.LogReplay.{LogReplay}
use Rattle.reading.specs.Source.{form_of}
use Rattle.reading.proofs.log.replayed.Given as goal

abbrev pub invariant-loop : goal.invariant-loop
invariant-loop l =
    let F = form_of l.form in
    LogReplay F.enter l.store F.message_cells (l.at + 1) l.end (cell l.store l.at) l.entry l.word l.counter
