-- Question 4 prints what `head` prints, to the byte: the slow engine beside the quick one (document 02, M-106). The
-- theorem is proofs/AsHead.antt.
use Rattle.std.specs.Prelude.{ℕ, ◌≤◌, ◌≡◌, List, [], ◌∷◌, length, take, drop}
use Rattle.model.specs.CallList.{list_limit}
use Rattle.model.specs.Program.{input_bytes, plan_length}
use Rattle.report.specs.Text.{head_text}
use Rattle.operator.specs.Console.{replay_asked, console}
use Rattle.operator.specs.ConsoleText.{console_text}
use Rattle.operator.specs.Lists.{calls_in}

-- the records in an input of `head`, as far as that is taken
abbrev pub records_taken : List ℕ → List ℕ
records_taken bytes = let taken : List ℕ = take input_bytes bytes in drop (plan_length taken) taken

-- Of every input of `head` with at most 256 records, whether they break off after these or not. (Where the plan is
-- refused, both print that refusal, whatever stands after it: Console.replay_answer.)
abbrev pub AsHead : Type 0
AsHead =
    (bytes : List ℕ) → length (calls_in (records_taken bytes)) ≤ list_limit
    → console_text (console (replay_asked ∷ bytes)) [] ≡ head_text bytes
