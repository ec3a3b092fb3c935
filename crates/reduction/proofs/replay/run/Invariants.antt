-- The loop's invariant: the calls before the i-th were accepted and led here.
use Rattle.model.specs.Reduction.{calls_at}
use Rattle.reduction.specs.Parts.{kept}
use Rattle.reduction.specs.Replays.{replies_from}
use Rattle.reduction.proofs.Replaying.{Replaying}
use Rattle.reduction.proofs.replay.run.Given as goal

abbrev pub invariant-loop-i : goal.invariant-loop-i
invariant-loop-i l =
    Replaying l.topology (calls_at l.list (kept l.part))
    (replies_from l.topology l.fn.first l.fn.store (calls_at l.list (kept l.part))) l.answer.state l.store l.rooms l.i
