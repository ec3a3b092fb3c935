-- The loop of `destination::Carriage::processes`: the records of the first p processes are written.
use Rattle.migration.proofs.Writing.{Wrote, writes_process}
use Rattle.reading.specs.Source.{form_of}
use Rattle.migration.proofs.destination.Carriage.processes.Given as goal

abbrev pub invariant-loop-p : goal.invariant-loop-p
invariant-loop-p l =
    Wrote l.initial.target (writes_process (form_of l.self.from) (form_of l.self.to) l.self.topology l.source)
    l.self.topology.processes l.target l.p
