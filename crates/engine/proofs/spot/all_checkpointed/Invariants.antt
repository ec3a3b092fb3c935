-- The loop's invariant of `engine::spot::all_checkpointed`: whether the processes so far have their checkpoints.
use Rattle.std.proofs.Common.{◌≡◌}
use Rattle.engine.specs.Spots.{all_checkpointed}
use Rattle.engine.proofs.spot.all_checkpointed.Given as goal

abbrev pub invariant-loop-p : goal.invariant-loop-p
invariant-loop-p l = l.so ≡ all_checkpointed l.flags.logical l.flags.saved l.late l.p
