-- The program `console`, as data: what is asked, and what is answered.
use Rattle.std.specs.Prelude.{ℕ, ◌+◌, Bool, true, false, cond, List, [], ◌∷◌, take, drop, eqb, Option, Some, None}
use Rattle.std.proofs.Math.Option as maybe
use Rattle.std.proofs.Math.Option.{none, some}
use Rattle.model.specs.declared.Topology.{Topology}
use Rattle.model.specs.declared.Record.{Record}
use Rattle.model.specs.Program.{input_bytes, plan_of, plan_length, plan_refusal, head}
use Rattle.model.specs.Reduction.{Sought, refuses, finds, sought, list_refusal}
use Rattle.report.specs.Changed.{start_store}
use Rattle.operator.specs.declared.Question.{Question}
use Rattle.operator.specs.declared.Question.TheVariants.{Reduction, Carry, Replay}
use Rattle.operator.specs.declared.carry.Way.TheVariants.{Upgrade, Downgrade}
use Rattle.operator.specs.ConsoleAnswer.{ConsoleAnswer, plan_refused, refused, reduced, replayed}
use Rattle.operator.specs.Carrying.{source_form, target_form, carrying}
use Rattle.operator.specs.Lists.{calls_in, broken_off}

-- A part is answered, or the first of these that applies: last, that the list is too long, 18, and that no call of it
-- is refused, 17;
unfoldable pub sought_answer : List ℕ → Topology → List Record → Sought → ConsoleAnswer
sought_answer plan T calls (refuses n) = refused n
sought_answer plan T calls (finds f) = reduced plan T calls f

-- before them that the bytes after the plan aren't all records, 7;
unfoldable pub list_answer : Bool → List ℕ → Topology → List Record → ConsoleAnswer
list_answer true plan T calls = refused 7
list_answer false plan T calls = sought_answer plan T calls (sought T calls)

-- and first the plan's refusal, as `head` has it
unfoldable pub plan_answer : maybe.Option ℕ → List ℕ → ConsoleAnswer
plan_answer (some n) bytes = plan_refused n
plan_answer none bytes =
    let records : List ℕ = drop (plan_length bytes) bytes in
    list_answer (broken_off records) (take (plan_length bytes) bytes) (plan_of bytes) (calls_in records)

-- question 1, of an input as `head`'s
unfoldable pub reduction : List ℕ → ConsoleAnswer
reduction bytes = plan_answer (plan_refusal bytes) bytes

-- Question 4, of an input as `head`'s (document 02, M-106; the slow engine works it out): what `head` prints of these
-- very bytes, also where they break off; but where the list is refused, which is by 18, that number
unfoldable pub output_answer : maybe.Option ℕ → List ℕ → ConsoleAnswer
output_answer (some n) bytes = refused n
output_answer none bytes = replayed (head bytes)

-- Before it comes the plan's refusal. (1 to 5 and 19 of the list are the plan's.)
unfoldable pub replay_answer : maybe.Option ℕ → List ℕ → ConsoleAnswer
replay_answer (some n) bytes = plan_refused n
replay_answer none bytes =
    output_answer (list_refusal (plan_of bytes) (calls_in (drop (plan_length bytes) bytes))) bytes

unfoldable pub replaying : List ℕ → ConsoleAnswer
replaying bytes = replay_answer (plan_refusal bytes) bytes

-- the first byte says what is asked: 1 is the part of a list that matters, 2 a store carried to the new form, 3 one
-- carried back, and 4 a list run by the slow engine
abbrev pub reduction_asked : ℕ
reduction_asked = 1

abbrev pub upgrade_asked : ℕ
upgrade_asked = 2

abbrev pub downgrade_asked : ℕ
downgrade_asked = 3

abbrev pub replay_asked : ℕ
replay_asked = 4

unfoldable pub asked_in : List ℕ → Option Question
asked_in [] = None
asked_in (b ∷ bytes) =
    cond (eqb b reduction_asked) (Some Reduction)
    (cond (eqb b upgrade_asked) (Some (Carry Upgrade))
    (cond (eqb b downgrade_asked) (Some (Carry Downgrade)) (cond (eqb b replay_asked) (Some Replay) None)))

-- how many bytes are taken with it, and what it is asked of: the first 65,536 bytes after it
abbrev pub bytes_taken : ℕ
bytes_taken = 1 + input_bytes

unfoldable pub taken_in : List ℕ → List ℕ
taken_in input = take input_bytes (drop 1 input)

-- Nothing known is 7, whether there is no input or another first byte. What a store is carried into starts full of
-- rubbish, and is long enough.
unfoldable pub answer_to : Option Question → List ℕ → ConsoleAnswer
answer_to (Some Reduction) bytes = reduction bytes
answer_to (Some (Carry w)) bytes = carrying (source_form w) (target_form w) bytes start_store
answer_to (Some Replay) bytes = replaying bytes
answer_to None bytes = refused 7

unfoldable pub console : List ℕ → ConsoleAnswer
console input = answer_to (asked_in input) (taken_in input)
