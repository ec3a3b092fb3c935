-- Question 4 prints what `head` prints: the plan's refusal, or, as no list of at most 256 calls is refused, all of it.
use Prim.Native.Nat.{ℕ, ◌≤◌}
use mathlib.Core.Path.{◌≡◌, refl, sym, ap, ◌∙◌}
use mathlib.Core.List.{List, []}
use mathlib.Core.Option.{Option, none, some, or_else}
use lib.ListN.{length, take, length-take}
use lib.Seq.{take_all}
use borrow.Author.Tests.{le-ltb}
use native.Mathlib.Omega.{arith}
use Rattle.model.specs.declared.Record.{Record}
use Rattle.model.specs.Check.{first_refusal}
use Rattle.model.specs.Topology.{topology_refusal}
use Rattle.model.specs.CallList.{list_limit}
use Rattle.model.specs.Program.{input_bytes, plan_of, shape_refusal, plan_refusal, played_of, head}
use Rattle.model.specs.Program as program
use Rattle.model.specs.Reduction.{list_refusal}
use Rattle.model.proofs.laws.Lists.{or_else_none}
use Rattle.report.specs.Text.{output_text, head_text}
use Rattle.operator.specs.AsHead.{AsHead}
use Rattle.operator.specs.Console.{asked_in, taken_in, output_answer, replay_answer, replaying, answer_to, console}
use Rattle.operator.specs.ConsoleText.{answer_text, console_text}
use Rattle.operator.specs.Lists.{calls_in}
use Rattle.operator.proofs.Answering.{records}
use Rattle.operator.proofs.HeadRuns.{output_by, head_takes}

-- after a plan that passes its checks a list of at most 256 calls does
passes : (bytes : List ℕ) (cs : List Record) → plan_refusal bytes ≡ none → length cs ≤ list_limit
    → list_refusal (plan_of bytes) cs ≡ none
unfolding plan_refusal list_refusal first_refusal or_else
passes bytes cs e few =
    rw (le-ltb _ _ few) (or_else_none (shape_refusal bytes) (topology_refusal (plan_of bytes)) e).1

head_refused : (bytes : List ℕ) {n : ℕ} → plan_refusal bytes ≡ some n
    → output_by (plan_refusal bytes) bytes ≡ program.plan_refused n
unfolding played_of
head_refused bytes e = ap (λ (o : Option ℕ). output_by o bytes) e

module _ (bytes : List ℕ) (whole : take input_bytes bytes ≡ bytes)
    (few : length (calls_in (records bytes)) ≤ list_limit)
  where
    by_plan : (o : Option ℕ) → plan_refusal bytes ≡ o
        → console_text (replay_answer o bytes) [] ≡ output_text (head bytes)
    unfolding replay_answer output_answer answer_text output_text
    by_plan (some n) e = rw (head_takes bytes whole ∙ head_refused bytes e)
    by_plan none e = rw (passes bytes (calls_in (records bytes)) e few)

pub as_head : AsHead
unfolding console asked_in taken_in answer_to replaying head_text
as_head bytes few =
    let taken : List ℕ = take input_bytes bytes in
    let whole : take input_bytes taken ≡ taken = take_all input_bytes taken (rw length-take (omega arith)) in
    by_plan taken whole few (plan_refusal taken) refl
    ∙ ap output_text (head_takes taken whole ∙ sym (head_takes bytes refl))
