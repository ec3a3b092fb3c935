-- Laws of lines: the lines of a run's replies are those of what the slow engine answers, one for each call.
use Prim.Native.Nat.{ℕ, zero, suc, ◌+◌, ◌≤◌}
use mathlib.Core.Path.{◌≡◌, refl, ap, ◌∙◌}
use mathlib.Core.List.{List, [], ◌∷◌, ◌++◌, map, append_assoc, append-nil}
use lib.ListN.{length, get_or, take}
use lib.Seq.{length-take-le, get_or-take}
use native.Mathlib.Omega.{arith}
use Rattle.model.specs.Notation.{tabulate, concat_below}
use Rattle.model.specs.Program.{Line}
use Rattle.model.specs.ProgramsAreRuns.{reply_lines}
use Rattle.model.specs.Run.{Reply}
use Rattle.model.proofs.laws.Lists.{tabulate_length, concat_cong}
use Rattle.report.specs.Text.{said_line, line_text, lines_text}
use Rattle.slow.specs.declared.CallAnswer.{CallAnswer}
use Rattle.slow.specs.declared.Replayed.{Replayed}
use Rattle.slow.specs.Replays.{Told, answered, all_told, unanswered}
use Rattle.operator.specs.Replaying.{answer_line, answer_lines}

pub lines_append : (xs ys : List Line) → lines_text (xs ++ ys) ≡ lines_text xs ++ lines_text ys
unfolding lines_text
lines_append [] ys = refl
lines_append (x ∷ xs) ys = rw (lines_append xs ys, append_assoc (line_text x) (lines_text xs) (lines_text ys))

-- what is told of a call, as line n, and of calls, from line n on
abbrev told_line : ℕ → Told → List ℕ
told_line n t = said_line n t.outcome t.made

unfoldable told_text : ℕ → List Told → List ℕ
told_text n [] = []
told_text n (t ∷ ts) = told_line n t ++ told_text (n + 1) ts

replies_told : (n : ℕ) (rs : List Reply) → lines_text (reply_lines n rs) ≡ told_text n (map answered rs)
unfolding lines_text reply_lines told_text
replies_told n [] = refl
replies_told n (r ∷ rs) = rw (replies_told (n + 1) rs)

told_more : (n : ℕ) (ts : List Told) (t : Told)
    → told_text n (ts ++ (t ∷ [])) ≡ told_text n ts ++ told_line (n + length ts) t
unfolding told_text
told_more n [] t = let e : n + 0 ≡ n = omega arith in rw e (append-nil (told_line n t))
told_more n (u ∷ ts) t =
    let e : (n + 1) + length ts ≡ n + suc (length ts) = omega arith in
    rw (
      told_more (n + 1) ts t,
      e,
      append_assoc (told_line n u) (told_text (n + 1) ts)
          (told_line (n + suc (length ts)) t),
    )

told_below : (k : ℕ) (f : ℕ → Told) → told_text 1 (tabulate k f) ≡ concat_below k (λ i. told_line (i + 1) (f i))
unfolding told_text tabulate concat_below
told_below zero f = refl
told_below (suc k) f =
    let e : 1 + k ≡ k + 1 = omega arith in
    told_more 1 (tabulate k f) (f k) ∙ rw (told_below k f, tabulate_length k f, e)

pub told_lines : (r : Replayed) (rs : List Reply) → all_told r ≡ map answered rs
    → lines_text (reply_lines 1 rs) ≡ answer_lines r.count r.answers
told_lines r rs e = replies_told 1 rs ∙ rw (← e) (told_below r.count _)

-- and those of the first n answers are the lines of as many
pub taken_lines : (n : ℕ) (answers : List CallAnswer) → n ≤ length answers
    → answer_lines (length (take n answers)) (take n answers) ≡ answer_lines n answers
taken_lines n answers l =
    rw (length-take-le n answers l)
    (concat_cong n (λ i. answer_line (i + 1) (get_or (take n answers) i unanswered))
    (λ i. answer_line (i + 1) (get_or answers i unanswered))
    (λ i k. ap (answer_line (i + 1)) (get_or-take n answers i unanswered k)))
