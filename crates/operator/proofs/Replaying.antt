-- Laws of question 4: the plan is refused, the list is, or the slow engine runs it, and what is printed of that is all
-- that `head` prints.
use Rattle.std.proofs.Common.{◌≡◌, ℕ, ◌+◌, ◌*◌, ◌<◌, ◌≤◌, Bool, true, false, List, [], length, take, ltb, leb}
use Rattle.std.proofs.Common.{refl, sym}
use Rattle.std.proofs.Common.{◌∙◌, arith}
use Rattle.std.specs.Prelude.{Result, Ok, Err}
use mathlib.Core.Option.{Option, none, some, or_else}
use borrow.Author.Tests.{ltb-false, lt-ltb, leb-true, leb-false}
use Rattle.model.specs.declared.Topology.{Topology}
use Rattle.model.specs.declared.Record.{Record}
use Rattle.model.specs.declared.Refusal.{Refusal}
use Rattle.model.specs.Check.{first_refusal}
use Rattle.model.specs.Topology.{topology_refusal}
use Rattle.model.specs.Channel.{channel_room}
use Rattle.model.specs.State.{view}
use Rattle.model.specs.Outcome.{refusal_number, refusal_of}
use Rattle.model.specs.Program.{input_bytes, plan_of, plan_refusal, broken_line}
use Rattle.model.specs.CallList.{list_limit}
use Rattle.model.specs.Reduction.{list_refusal}
use Rattle.model.proofs.laws.Tests.{Tested, test, holds, fails}
use Rattle.report.specs.Appends.{Appends}
use Rattle.report.specs.Text.{lines_text}
use Rattle.report.specs.TextBytes.{line_bytes}
use Rattle.report.specs.Ending.{ending_text, ending_bytes}
use Rattle.report.proofs.Appending.{at_most, ◌then◌}
use Rattle.report.proofs.Endings.{ending_fits}
use Rattle.slow.specs.declared.Replayed.{Replayed}
use Rattle.slow.specs.Replays.{Runs, ReplaysBy, Replays}
use Rattle.operator.specs.declared.list.ListRead.{ListRead}
use Rattle.operator.specs.Console.{output_answer, replay_answer, replaying}
use Rattle.operator.specs.ConsoleAnswer.{plan_refused, refused}
use Rattle.operator.specs.ConsoleText.{answer_text}
use Rattle.operator.specs.Lists.{calls_in, broken_off, held, end_refusal, ReadsList}
use Rattle.operator.specs.Printing.{PrintsAnswer}
use Rattle.operator.specs.Replaying.{answer_lines, end_line}
use Rattle.operator.proofs.Answering.{all_first, long_first, records}
use Rattle.operator.proofs.HeadRuns.{few_entries, head_text_lem}

-- a list that isn't refused has at most 256 calls
few_calls : (T : Topology) (cs : List Record) → list_refusal T cs ≡ none → length cs ≤ list_limit
unfolding list_refusal first_refusal or_else
few_calls T cs e = go (test (ltb list_limit (length cs)))
  where
    go : Tested (ltb list_limit (length cs)) → length cs ≤ list_limit
    go (holds t) = absurd (let same = rw t at e in let z : ◌≡◌ {A = ℕ} 0 1 = cc in omega arith)
    go (fails t) = ltb-false _ _ t

-- a list that the slow engine has run
pub record Ran (T : Topology) (cs : List Record) (r : Replayed) : Type 0 where
  pub passed : list_refusal T cs ≡ none
  pub few : r.count ≤ list_limit
  pub runs : Runs T cs r

-- it refuses a list that the definition refuses, and runs any other
module _ (T : Topology) (cs : List Record) where
  refuses : (o : Option ℕ) (n : Refusal) → ReplaysBy o T cs (Err n) → o ≡ some (refusal_number n)
  unfolding refusal_of
  refuses none n p = absurd p
  refuses (some m) n p = sym p.refusal

  runs : (o : Option ℕ) {r : Replayed} → ReplaysBy o T cs (Ok r) → (o ≡ none) × Runs T cs r
  unfolding refusal_of
  runs none p = (refl, p)
  runs (some m) p = absurd (let e = p.refusal in let z : ◌≡◌ {A = ℕ} 0 1 = cc in omega arith)

-- so the list that was read is refused, or run, as the calls are that the bytes hold
module _ (T : Topology) (bytes : List ℕ) {x : ListRead} (read : ReadsList bytes x) where
  same_refusal : list_refusal T (held x) ≡ list_refusal T (calls_in bytes)
  unfolding list_refusal first_refusal or_else
  same_refusal = rw read.calls (go (test (leb (length (calls_in bytes)) list_limit)))
    where
      go : Tested (leb (length (calls_in bytes)) list_limit)
          → list_refusal T (take (list_limit + 1) (calls_in bytes)) ≡ list_refusal T (calls_in bytes)
      go (holds t) = rw (all_first (calls_in bytes) (leb-true _ _ t))
      go (fails t) =
          let long : list_limit < length (calls_in bytes) = leb-false (length (calls_in bytes)) list_limit t in
          rw (lt-ltb _ _ (long_first (calls_in bytes) long), lt-ltb _ _ long)

  pub list_refused : {n : Refusal} → Replays T (held x) (Err n)
      → list_refusal T (calls_in bytes) ≡ some (refusal_number n)
  list_refused p = sym same_refusal ∙ refuses T (held x) _ _ p.replays

  pub list_run : {r : Replayed} → Replays T (held x) (Ok r) → Ran T (calls_in bytes) r
  list_run p =
      let (passed, all) = runs T (held x) _ p.replays in
      let accepted = sym same_refusal ∙ passed in
      let few = few_calls T (calls_in bytes) accepted in
      let whole = rw (read.calls ∙ all_first (calls_in bytes) few) at all in
      record { passed = accepted; few = omega (arith, whole.count); runs = whole }

-- the line where the bytes break off
same_end : (broken : Bool) (end : Result (Unit {0}) Refusal) (n : ℕ) → refusal_of end ≡ end_refusal broken
    → end_line end n ≡ broken_line broken n
unfolding refusal_of broken_line
same_end true (Ok x) n e = absurd (let z : ◌≡◌ {A = ℕ} 0 1 = cc in omega arith)
same_end true (Err r) n e = let number : refusal_number r ≡ 7 = cc in rw number
same_end false (Ok x) n e = refl
same_end false (Err r) n e = absurd (let z : ◌≡◌ {A = ℕ} 0 1 = cc in omega arith)

-- what is answered: the plan is refused,
module _ (bytes : List ℕ) where
  pub replays_plan : {n : ℕ} → plan_refusal bytes ≡ some n → replaying bytes ≡ plan_refused n
  unfolding replaying replay_answer
  replays_plan e = rw e

  -- the list is,
  module _ (passes : plan_refusal bytes ≡ none) {T : Topology} (plan : T ≡ plan_of bytes) where
    pub replays_refused : {n : ℕ} → list_refusal T (calls_in (records bytes)) ≡ some n → replaying bytes ≡ refused n
    unfolding replaying replay_answer output_answer
    replays_refused e = rw (passes, ← plan, e)

    -- or it is run
    pub replays_run : {before after : List ℕ} {q : ℕ} {r : Replayed} → Ran T (calls_in (records bytes)) r
        → length bytes ≤ input_bytes → topology_refusal T ≡ none → (end : Result (Unit {0}) Refusal)
        → refusal_of end ≡ end_refusal (broken_off (records bytes)) → {m m' : List ℕ} {at at' : ℕ}
        → Appends (list_limit * line_bytes) before 0 (answer_lines r.count r.answers) m at
        → Appends line_bytes m at (lines_text (end_line end (r.count + 1))) m' at'
        → Appends (ending_bytes T (view r.state)) m' at' (ending_text T (view r.state)) after q
        → PrintsAnswer (replaying bytes) before after q
    unfolding replaying replay_answer output_answer answer_text
    replays_run {r = r} ran few good end same lines break ending =
        let few-last = few_entries T good (calls_in (records bytes)) ran.runs.state in
        let last = ending_fits T (view r.state) channel_room good (omega (arith, few-last)) ending in
        rw (passes, ← plan, ran.passed)
        (record {
          part = [];
          allowed = refl;
          text =
              rw (head_text_lem bytes few passes plan r ran.runs, ← same_end _ end (r.count + 1) same)
              (at_most (lines then break then last) (omega arith));
        })
