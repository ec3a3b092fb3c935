-- The answers place by place, and as a list; and when a list is refused.
use Prim.Native.Nat.{ℕ, ◌<◌, ◌≤◌}
use mathlib.Core.Path.{◌≡◌, refl, sym, ap, ◌∙◌}
use mathlib.Core.List.{List, [], ◌∷◌, map}
use mathlib.Core.Option.{some, or_else}
use lib.ListN.{get_or, length, replicate, length-replicate}
use borrow.Author.Tests.{lt-ltb, le-ltb}
use native.Mathlib.Omega.{arith}
use Rattle.model.specs.declared.Topology.{Topology}
use Rattle.model.specs.declared.Record.{Record}
use Rattle.model.specs.Notation.{tabulate}
use Rattle.model.specs.Check.{first_refusal}
use Rattle.model.specs.Topology.{topology_refusal}
use Rattle.model.specs.CallList.{call_at, replies}
use Rattle.model.specs.Reduction.{list_refusal}
use Rattle.model.specs.State.{view}
use Rattle.model.specs.Program.{full_budget}
use Rattle.model.specs.ProgramsAreRuns.{call_with}
use Rattle.model.specs.Run.{run, trace}
use Rattle.model.proofs.laws.Functions.{seen_replicate}
use Rattle.model.proofs.laws.Lists.{tabulate_cons, tabulate_cong, map_tabulate}
use Rattle.slow.specs.declared.CallAnswer.{CallAnswer}
use Rattle.slow.specs.declared.Replayed.{Replayed}
use Rattle.slow.specs.Replays.{unanswered, answered, told_by, start, Runs}
use Rattle.slow.specs.SoFar.{AnsweredSoFar, world_at, reply_at}
use Rattle.slow.proofs.AsRun.{trace_is}

-- no answer yet
pub none_answered : (T : Topology) (calls : List Record) → AnsweredSoFar T calls 0 (replicate 256 unanswered)
none_answered T calls =
    record {
      told = λ i l. absurd (omega arith);
      unused = λ i l. ap (λ (g : ℕ → CallAnswer). g i) (seen_replicate 256 unanswered);
      places = length-replicate 256 unanswered;
    }

-- 18, then 1 to 5 and 19, or none of them
module _ (T : Topology) (calls : List Record) where
  pub too_long : 256 < length calls → list_refusal T calls ≡ some 18
  unfolding list_refusal first_refusal or_else
  too_long l = rw (lt-ltb 256 (length calls) l)

  pub by_topology : length calls ≤ 256 → list_refusal T calls ≡ topology_refusal T
  unfolding list_refusal first_refusal or_else
  by_topology l = rw (le-ltb 256 (length calls) l)

-- a list, place by place
tabulated : {A : Type 0} (l : List A) (d : A) → tabulate (length l) (λ i. get_or l i d) ≡ l
unfolding tabulate
tabulated [] d = refl
tabulated (x ∷ l) d = tabulate_cons (length l) (λ i. get_or (x ∷ l) i d) ∙ ap (λ (r : List _). x ∷ r) (tabulated l d)

-- the list that was run
pub runs : {T : Topology} {calls : List Record} {r : Replayed} → r.count ≡ length calls
    → AnsweredSoFar T calls (length calls) r.answers
    → view r.state ≡ (world_at T (call_at calls) (length calls)).state → Runs T calls r
unfolding replies
runs {T} {calls} {r} n h s =
    let own : tabulate (length calls) (call_at calls) ≡ calls = tabulated calls _ in
    let run_of = λ (l : List Record). map (call_with full_budget) l in
    record {
      count = n;
      answers =
          rw n
          (tabulate_cong (length calls) (λ i. told_by (get_or r.answers i unanswered))
          (λ i. answered (reply_at T (call_at calls) i))
          (λ i l j. record { outcome = (h.told i l).outcome j; made = (h.told i l).made j })
          ∙ sym (ap (λ (l : List Record). map answered (trace T (start T) (run_of l))) (sym own)
          ∙ ap (map answered) (trace_is T (call_at calls) (length calls))
          ∙ map_tabulate answered (length calls) (reply_at T (call_at calls))));
      unused = rw n h.unused;
      state = s ∙ ap (λ (l : List Record). (run T (start T) (run_of l)).state) own;
    }
