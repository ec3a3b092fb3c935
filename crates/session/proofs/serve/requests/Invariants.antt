use Rattle.std.proofs.Common.{length}
use Rattle.model.specs.State.{view}
use Rattle.model.specs.Program.{session_from}
use Rattle.session.specs.RequestRead.{source_of}
use Rattle.session.proofs.Sessions.{At}
use Rattle.session.proofs.serve.requests.Given as goal

abbrev pub invariant-loop-left : goal.invariant-loop-left
invariant-loop-left l =
    let source = source_of l.source in
    let begun = view l.initial.cursor.state in
    At source l.topology (length l.bytes) (session_from source l.topology 1 begun l.initial.store l.bytes)
    l.initial.out 0 l.cursor l.store l.left l.out

abbrev pub decreases-loop-left : goal.decreases-loop-left
decreases-loop-left l = length l.left
