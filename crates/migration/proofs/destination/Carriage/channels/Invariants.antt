-- The loop of `destination::Carriage::channels`: the logs of the first c channels are copied.
use Rattle.migration.proofs.Writing.{Wrote, writes_channel}
use Rattle.reading.specs.Source.{form_of}
use Rattle.migration.proofs.destination.Carriage.channels.Given as goal

abbrev pub invariant-loop-c : goal.invariant-loop-c
invariant-loop-c l =
    Wrote l.initial.target (writes_channel (form_of l.self.from) (form_of l.self.to) l.source)
    l.self.topology.channels l.target l.c
