-- The loop's invariant of `engine::dispatch::plain_channels`: the first c channels have their messages alone, and all
-- else is as it was.
use Rattle.std.proofs.Common.{◌≡◌}
use Rattle.model.specs.State.{view}
use Rattle.engine.proofs.Aborting.{plain_to}
use Rattle.engine.proofs.dispatch.plain_channels.Given as goal

abbrev pub invariant-loop-c : goal.invariant-loop-c
invariant-loop-c l = view l.state ≡ plain_to l.c (view l.fn.state)
