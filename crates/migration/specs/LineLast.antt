-- Document 02, M-102: "cell 0 is stored last". So a carry that stops halfway shows no line of its own: until all the
-- rest is there, cell 0 of the target says what it said before. Of the definition's list of writes, whatever the forms,
-- the topology, the source and the target. Not claimed: that such a target restarts as it did before, since of its half
-- for the source's line a part may be overwritten; nor the order in the code, whose promise is about the end.
use Rattle.std.specs.Prelude.{ℕ, ◌<◌, ◌≡◌, List, length, take}
use Rattle.std.proofs.Math.Option.{none}
use Rattle.model.specs.declared.Topology.{Topology}
use Rattle.model.specs.Form.{Form}
use Rattle.model.specs.Write.{write_all}
use Rattle.model.specs.Recover.{stored_line}
use Rattle.migration.specs.Carry.{carry_writes, carry}

pub record LineLast : Type 0 where
  -- after the first n writes, with any still to come
  pub halfway : (F G : Form) (T : Topology) (source target : List ℕ) (n : ℕ) → n < length (carry_writes F G T source)
      → stored_line (write_all target (take n (carry_writes F G T source))) ≡ stored_line target
  -- after all of them
  pub whole : (F G : Form) (T : Topology) (source target : List ℕ) → (carry F G T source target).refusal ≡ none
      → stored_line (carry F G T source target).target ≡ stored_line source
