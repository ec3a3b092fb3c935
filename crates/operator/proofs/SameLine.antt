-- `converter`'s line is `console`'s: a target's cells decide nothing of how the carrying of a store ends, only their
-- number does, and that is the same.
use Prim.Native.Nat.{ℕ}
use mathlib.Core.Path.{◌≡◌, refl, sym, ◌∙◌}
use mathlib.Core.Bool.{Bool, true, false}
use mathlib.Core.List.{List, []}
use mathlib.Core.Option.{Option, none, some}
use lib.ListN.{length, take, drop, replicate, length-replicate}
use lib.Seq.{take-length}
use Rattle.model.specs.declared.Topology.{Topology}
use Rattle.model.specs.Form.{Form}
use Rattle.model.specs.Layout.{store_cells}
use Rattle.model.specs.Program.{plan_of, plan_length, plan_refusal}
use Rattle.migration.specs.Carry.{Carried, carry_refusal, carried_or, carry}
use Rattle.report.specs.Changed.{start_store}
use Rattle.report.proofs.Changes.{start_length}
use Rattle.operator.specs.Carrying.{source_form, target_form, cells_in, are_cells, carried_answer, cells_answer}
use Rattle.operator.specs.Carrying.{source_answer, carrying}
use Rattle.operator.specs.Console.{taken_in, answer_to, console}
use Rattle.operator.specs.ConsoleAnswer.{ConsoleAnswer, plan_refused, refused, reduced, carried, replayed}
use Rattle.operator.specs.ConsoleText.{answer_text, line_of}
use Rattle.operator.specs.File.{file_text, file_to, file}
use Rattle.operator.specs.SameLine.{SameLine}

-- an answer's text begins with its line, however a target is shown
begins : (shown : List ℕ → List ℕ) (x : ConsoleAnswer)
    → take (length (line_of x)) (answer_text shown x []) ≡ line_of x
unfolding answer_text
begins shown (plan_refused n) = take-length _
begins shown (refused n) = take-length _
begins shown (reduced plan T calls f) = take-length _
begins shown (carried target) = refl
begins shown (replayed output) = take-length _

-- the line of what a carrying comes to, by its refusal
ended : (r : Option ℕ) (after before after' before' : List ℕ)
    → let x : Carried = carried_or r after before in
    let y : Carried = carried_or r after' before' in
    line_of (carried_answer x.refusal x.target) ≡ line_of (carried_answer y.refusal y.target)
unfolding carried_or carried_answer answer_text
ended none after before after' before' = refl
ended (some n) after before after' before' = refl

module _ (F G : Form) (bytes one other : List ℕ) (same : length one ≡ length other) where
  of_cells : (b : Bool) (T : Topology) (cells : List ℕ)
      → line_of (cells_answer b F G T cells one) ≡ line_of (cells_answer b F G T cells other)
  unfolding cells_answer carry
  of_cells false T cells = refl
  of_cells true T cells = rw same (ended (carry_refusal F G T (cells_in cells) (length other)) _ _ _ _)

  of_source : (r : Option ℕ) → line_of (source_answer r F G bytes one) ≡ line_of (source_answer r F G bytes other)
  unfolding source_answer
  of_source (some n) = refl
  of_source none =
      let cells : List ℕ = drop (plan_length bytes) bytes in of_cells (are_cells cells) (plan_of bytes) cells

  said_alike : line_of (carrying F G bytes one) ≡ line_of (carrying F G bytes other)
  unfolding carrying
  said_alike = of_source (plan_refusal bytes)

pub same_line : SameLine
unfolding console answer_to file file_to
same_line input w asked =
    let x : ConsoleAnswer =
    carrying (source_form w) (target_form w) (taken_in input) (replicate store_cells 0) in
    let line : line_of (console input) ≡ line_of x =
    rw asked (said_alike (source_form w) (target_form w) (taken_in input) start_store (replicate store_cells 0)
    (start_length ∙ sym (length-replicate {A = ℕ} store_cells 0))) in
    let text : file input ≡ file_text (target_form w) x = rw asked in
    rw (line, text) (begins _ x)
