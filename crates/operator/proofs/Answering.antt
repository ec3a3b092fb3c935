-- Laws of the answer to a reduction: each refusal in its order, and the lines of a part.
use Rattle.std.proofs.Common.{◌≡◌, ℕ, ◌+◌, ◌-◌, ◌<◌, ◌≤◌, true, false, List, ◌++◌, length, get_or, take, drop, leb}
use Rattle.std.proofs.Common.{sym, ap, subst, ◌∙◌, arith, length-take}
use Rattle.std.proofs.lemmas.List.{take_all}
use Rattle.std.specs.Prelude.{Ok}
use mathlib.Core.Option.{none, some}
use borrow.Author.Tests.{leb-true, leb-false}
use Rattle.model.specs.declared.Topology.{Topology}
use Rattle.model.specs.declared.Record.{Record}
use Rattle.model.specs.declared.Record.TheVariants.{Recover}
use Rattle.model.specs.Outcome.{refusal_number}
use Rattle.model.specs.Topology.{topology_refusal}
use Rattle.model.specs.Program.{plan_of, map_start, plan_length, shape_refusal, plan_refusal}
use Rattle.model.specs.CallList.{list_limit, Failure, rooms}
use Rattle.model.specs.Reduction.{Sought, refuses, finds, calls_at, sought, Smallest}
use Rattle.model.proofs.laws.Tests.{Tested, test, holds, fails}
use Rattle.model.proofs.laws.Lists.{concat_cong, or_else_none}
use Rattle.plan.proofs.Plans.{whole}
use Rattle.report.specs.Appends.{Appends}
use Rattle.report.specs.Hex.{plan_line_text}
use Rattle.report.specs.TextBytes.{plan_line_bytes}
use Rattle.report.proofs.Appending.{at_most, ◌then◌}
use Rattle.reduction.specs.declared.Reduced.{Reduced}
use Rattle.reduction.specs.Parts.{kept, padded}
use Rattle.reduction.specs.Reduces.{Reduces}
use Rattle.reduction.proofs.Parts.{padded_at, kept_length}
use Rattle.reduction.proofs.Passing.{some_call}
use Rattle.reduction.proofs.Reducing.{sought_long, found_few}
use Rattle.operator.specs.declared.list.ListRead.{ListRead}
use Rattle.operator.specs.Console.{sought_answer, list_answer, plan_answer, reduction}
use Rattle.operator.specs.ConsoleAnswer.{plan_refused, refused}
use Rattle.operator.specs.ConsoleText.{kept_line, last_kept, part_text, part_bytes, plan_bytes, answer_text}
use Rattle.operator.specs.Lists.{calls_in, broken_off, held, ReadsList}
use Rattle.operator.specs.Printing.{PrintsAnswer}

-- the first 257 of a list: all of a list that isn't too long; and of one that is, too many
module _ (cs : List Record) where
  pub all_first : length cs ≤ list_limit → take (list_limit + 1) cs ≡ cs
  all_first l = take_all (list_limit + 1) cs (omega arith)

  pub long_first : list_limit < length cs → list_limit < length (take (list_limit + 1) cs)
  long_first l = rw length-take (omega arith)

-- what is sought in the list that was read is what is sought in the calls that the bytes hold
same_sought : (T : Topology) (bytes : List ℕ) {r : ListRead} → ReadsList bytes r
    → sought T (held r) ≡ sought T (calls_in bytes)
same_sought T bytes {r} p = rw p.calls (go (test (leb (length (calls_in bytes)) list_limit)))
  where
    go : Tested (leb (length (calls_in bytes)) list_limit)
        → sought T (take (list_limit + 1) (calls_in bytes)) ≡ sought T (calls_in bytes)
    go (holds t) = rw (all_first (calls_in bytes) (leb-true _ _ t))
    go (fails t) =
        let long : list_limit < length (calls_in bytes) = leb-false (length (calls_in bytes)) list_limit t in
        sought_long T _ (long_first (calls_in bytes) long) ∙ sym (sought_long T (calls_in bytes) long)

-- where it has a failure, it is these calls
same_calls : (T : Topology) (bytes : List ℕ) {r : ListRead} → ReadsList bytes r → {f : Failure}
    → sought T (held r) ≡ finds f → held r ≡ calls_in bytes
same_calls T bytes p e = p.calls ∙ all_first _ (found_few T _ (sym (same_sought T bytes p) ∙ e))

-- what was found is a smallest part, and has a call
module _ {T : Topology} {cs : List Record} {found : Reduced} (m : Reduces T cs (Ok found)) where
  abbrev f : Failure
  f = record { place = found.place; number = refusal_number found.refusal }

  finds_it : sought T cs ≡ finds f
  finds_it = sym m.answer

  small : Smallest T cs f (kept found.part)
  small = rw finds_it at m.parted.part

  pub has_call : 0 < found.part.count
  has_call = rw (← kept_length m.parted.held) (some_call small.fails)

-- the lines of a part, by an array that begins with what is said of room
part_lines : (call : ℕ → Record) (xs said : List ℕ) (n : ℕ)
    → part_text call xs (padded said) n ≡ part_text call xs said n
part_lines call xs said n =
    let end : ℕ = length xs - 1 in
    let line : ℕ → ℕ → List ℕ = λ i room. kept_line (call (get_or xs i 0)) (get_or xs i 0) room in
    ap (λ (a : List ℕ). a ++ last_kept (call (get_or xs end 0)) (get_or xs end 0) n)
    (concat_cong end (λ i. line i (get_or (padded said) i 0)) (λ i. line i (get_or said i 0))
    (λ i l. ap (line i) (padded_at said i)))

-- how many bytes a plan that passes its checks has
plan_few : (bytes : List ℕ) → plan_refusal bytes ≡ none → length (take (plan_length bytes) bytes) ≤ plan_bytes
unfolding plan_refusal plan_length map_start
plan_few bytes e =
    let shaped = (or_else_none (shape_refusal bytes) (topology_refusal (plan_of bytes)) e).0 in
    omega (arith, (whole bytes shaped).fit.channels, length-take (plan_length bytes) bytes)

-- the bytes after the plan
abbrev pub records : List ℕ → List ℕ
records bytes = drop (plan_length bytes) bytes

module _ (bytes : List ℕ) where
  pub answers_plan : {n : ℕ} → plan_refusal bytes ≡ some n → reduction bytes ≡ plan_refused n
  unfolding reduction plan_answer
  answers_plan e = rw e

  -- past the plan
  module _ (passes : plan_refusal bytes ≡ none) where
    pub answers_broken : broken_off (records bytes) ≡ true → reduction bytes ≡ refused 7
    unfolding reduction plan_answer list_answer
    answers_broken b = rw (passes, b)

    -- in a list that doesn't break off, what is sought in it is answered
    module _ {T : Topology} (plan : T ≡ plan_of bytes) {x : ListRead} (read : ReadsList (records bytes) x)
        (whole_list : broken_off (records bytes) ≡ false) where
      answered : {s : Sought} → sought T (held x) ≡ s
          → reduction bytes ≡ sought_answer (take (plan_length bytes) bytes) T (calls_in (records bytes)) s
      unfolding reduction plan_answer list_answer
      answered e = rw (passes, whole_list, ← plan, sym (same_sought T (records bytes) read) ∙ e)

      pub answers_refused : {n : ℕ} → sought T (held x) ≡ refuses n → reduction bytes ≡ refused n
      unfolding sought_answer
      answers_refused e = answered e

      -- a part that was found
      pub answers_part : {found : Reduced} → Reduces T (held x) (Ok found)
          → {own before middle after : List ℕ} {at r : ℕ}
          → own ≡ take (plan_length bytes) bytes
          → Appends (plan_line_bytes (length own)) before 0 (plan_line_text own) middle at
          → Appends part_bytes middle at
          (part_text (λ i. get_or (held x) i Recover) (kept found.part) found.rooms (refusal_number found.refusal))
          after r
          → PrintsAnswer (reduction bytes) before after r
      unfolding sought_answer answer_text
      answers_part {found} m {own} {before} {middle} {after} {at} {r} o p q =
          let part : List ℕ = kept found.part in
          let cs : List Record = calls_in (records bytes) in
          let number : ℕ = refusal_number found.refusal in
          let same : held x ≡ cs = same_calls T (records bytes) read (finds_it m) in
          let call : List Record → ℕ → Record = λ xs i. get_or xs i Recover in
          let lines : List Record → List ℕ = λ xs. part_text (call xs) part (rooms T (calls_at xs part)) number in
          let text : Appends part_bytes middle at (lines cs) after r =
          subst (λ (xs : List Record). Appends part_bytes middle at (lines xs) after r) same
          (rw (m.parted.rooms, part_lines (call (held x)) part (rooms T (calls_at (held x) part)) number) at q) in
          let few-own : length own ≤ plan_bytes = rw o (plan_few bytes passes) in
          rw (answered (finds_it m))
          (record {
            part = part;
            allowed = rw same at (small m);
            text = rw (← o) (at_most (p then text) (omega (arith, few-own)));
          })
