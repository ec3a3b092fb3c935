-- The state that the past tells is the state of the run (the statement is specs/PastIsState.antt).
use mathlib.Core.List.{[]}
use Rattle.model.specs.Run.{run, trace, first_world}
use Rattle.model.proofs.line.RecoverKept.{topology_accepted}
use Rattle.account.specs.Deeds.{onto}
use Rattle.account.specs.PastIsState.{PastIsState}
use Rattle.account.proofs.Known.{known_first, known_run, known_state}

pub past_is_state : PastIsState
past_is_state T store ready calls =
    let good = topology_accepted T store ready in
    known_state T good (run T (first_world T store) calls) (onto [] (trace T (first_world T store) calls))
    (known_run T good (first_world T store) [] (known_first T store ready) calls)
