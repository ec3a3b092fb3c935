-- The loop's invariant of `engine::start::clear_processes`: the writes for the first p processes were made, as far as
-- the budget lasts.
use Rattle.model.specs.Notation.{concat_below}
use Rattle.engine.specs.Spent.{Spent, clear_process}
use Rattle.engine.proofs.start.clear_processes.Given as goal

abbrev pub invariant-loop-p : goal.invariant-loop-p
invariant-loop-p l = Spent l.fn.store l.budget (concat_below l.p clear_process) l.store l.left
