-- The loop of `rules::topology::distinct`: so says whether the channels below c are apart, and the table
-- has their ends.
use Rattle.std.proofs.Common.{◌≡◌}
use Rattle.model.specs.Notation.{all_below}
use Rattle.rules.specs.Ends.{apart}
use Rattle.rules.proofs.EndsSeen.{Seen}
use Rattle.rules.proofs.topology.distinct.Given as goal

abbrev pub invariant-loop-c : goal.invariant-loop-c
invariant-loop-c l = record { says : l.so ≡ all_below l.c (apart l.t); seen : Seen l.t l.c l.seen }
