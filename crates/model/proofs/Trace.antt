-- The trace of a run: lists of calls one after the other, and the histories as a fold over the replies alone (the
-- statement is HistoryOfTrace of specs/Trace.antt).
use mathlib.Core.Path.{◌≡◌, refl, ap}
use mathlib.Core.List.{List, [], ◌∷◌, ◌++◌}
use Rattle.model.specs.declared.Topology.{Topology}
use Rattle.model.specs.Run.{Call, World, Reply, reply_to, next, run, trace}
use Rattle.model.specs.Trace.{fed, HistoryOfTrace}

module _ (T : Topology) where
  pub run_append : (w : World) (xs ys : List Call) → run T w (xs ++ ys) ≡ run T (run T w xs) ys
  unfolding run
  run_append w [] ys = refl
  run_append w (x ∷ xs) ys = run_append (next T w x) xs ys

  pub trace_append : (w : World) (xs ys : List Call) → trace T w (xs ++ ys) ≡ trace T w xs ++ trace T (run T w xs) ys
  unfolding run trace
  trace_append w [] ys = refl
  trace_append w (x ∷ xs) ys = ap (λ (l : List Reply). reply_to T w x ∷ l) (trace_append (next T w x) xs ys)

pub history_of_trace : HistoryOfTrace
unfolding run trace fed next
history_of_trace T w [] = refl
history_of_trace T w (c ∷ cs) = history_of_trace T (next T w c) cs
