-- Document 01, "The books": "They are fed every call with its arguments and, of its answer, [..]", as a statement: the
-- histories after a run are what the replies to it make of those before it. The theorem is proofs/Trace.antt.
use Rattle.std.specs.Prelude.{◌≡◌, List, [], ◌∷◌}
use Rattle.model.specs.declared.Topology.{Topology}
use Rattle.model.specs.History.{History}
use Rattle.model.specs.Run.{Call, World, Reply, on_reply, run, trace}

-- the histories after these replies
unfoldable pub fed : Topology → List Reply → History → History
fed T [] h = h
fed T (r ∷ rs) h = fed T rs (on_reply T r h)

abbrev pub HistoryOfTrace : Type 0
HistoryOfTrace =
    (T : Topology) (w : World) (calls : List Call) → (run T w calls).history ≡ fed T (trace T w calls) w.history
