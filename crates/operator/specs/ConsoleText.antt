-- The whole output of `console`, as bytes, and its promise.
use Rattle.std.specs.Prelude.{ℕ, ◌+◌, ◌-◌, ◌*◌, max, Bool, true, false, cond, List, [], ◌++◌, length, get_or}
use Rattle.model.specs.declared.Record.{Record}
use Rattle.model.specs.declared.Record.TheVariants.{Call, Recover}
use Rattle.model.specs.declared.Step.TheVariants.{Send, Receive, Begin, PhysicalCheckpoint}
use Rattle.model.specs.declared.Step.TheVariants.{LogicalCheckpoint, SendMarker, Commit, Abort}
use Rattle.model.specs.Notation.{concat_below}
use Rattle.model.specs.Topology.{channel_limit}
use Rattle.model.specs.Channel.{channel_room}
use Rattle.model.specs.Layout.{store_cells}
use Rattle.model.specs.Record.{write_record}
use Rattle.model.specs.CallList.{list_limit, rooms}
use Rattle.model.specs.Reduction.{calls_at}
use Rattle.record.specs.Written.{longest}
use Rattle.report.specs.Appends.{WholeText}
use Rattle.report.specs.Hex.{plan_line_text, kept_text, sent_text, last_text, refused_text}
use Rattle.report.specs.Text.{chars, plan_refused_text, output_text}
use Rattle.report.specs.Changed.{changed_text}
use Rattle.report.specs.TextBytes.{plan_line_bytes, sent_bytes, last_bytes, cell_bytes, line_bytes}
use Rattle.report.specs.Ending.{longest_ending}
use Rattle.operator.specs.ConsoleAnswer.{ConsoleAnswer, plan_refused, refused, reduced, carried, replayed}
use Rattle.operator.specs.ConsoleAnswer.{PartIn}
use Rattle.operator.specs.Console.{console}

-- whether a call is a send
abbrev pub is_send : Record → Bool
is_send (Call (Send c b)) = true
is_send (Call (Receive c)) = false
is_send (Call Begin) = false
is_send (Call (PhysicalCheckpoint p)) = false
is_send (Call (LogicalCheckpoint p)) = false
is_send (Call (SendMarker c)) = false
is_send (Call Commit) = false
is_send (Call Abort) = false
is_send Recover = false

-- the line of a kept call, on which a send has how much room it says is left: a call's number in the list counts from 1
abbrev pub kept_line : Record → ℕ → ℕ → List ℕ
kept_line call place room =
    cond (is_send call) (sent_text (write_record call) (place + 1) room) (kept_text (write_record call) (place + 1))

-- the line of the last one, which is refused with n
abbrev pub last_kept : Record → ℕ → ℕ → List ℕ
last_kept call place n = last_text (write_record call) (place + 1) n

-- a line for each kept call, and on the last one its refusal
abbrev pub part_text : (ℕ → Record) → List ℕ → List ℕ → ℕ → List ℕ
part_text call part rooms n =
    concat_below (length part - 1) (λ i. kept_line (call (get_or part i 0)) (get_or part i 0) (get_or rooms i 0))
    ++ last_kept (call (get_or part (length part - 1) 0)) (get_or part (length part - 1) 0) n

abbrev pub done_text : List ℕ
done_text = chars "done\n"

-- the plan's bytes and the part; `done` and the target of a carried store, as it is shown; all that `head` prints, to
-- the byte (head_text of report's specs/Text.antt); or one line
unfoldable pub answer_text : (List ℕ → List ℕ) → ConsoleAnswer → List ℕ → List ℕ
answer_text shown (plan_refused n) part = plan_refused_text n
answer_text shown (refused n) part = refused_text n
answer_text shown (reduced plan T calls f) part =
    plan_line_text plan ++ part_text (λ i. get_or calls i Recover) part (rooms T (calls_at calls part)) f.number
answer_text shown (carried target) part = done_text ++ shown target
answer_text shown (replayed output) part = output_text output

-- an answer without a part: its line, with nothing shown of a target
abbrev pub line_of : ConsoleAnswer → List ℕ
line_of x = answer_text (λ target. []) x []

-- `console` shows the cells of a target that have changed
abbrev pub console_text : ConsoleAnswer → List ℕ → List ℕ
console_text = answer_text changed_text

-- How many bytes an output has at most: a plan's are its two sizes, the two ends of each channel, and the map's two.
abbrev pub plan_bytes : ℕ
plan_bytes = 2 + 2 * channel_limit + 2

abbrev pub part_bytes : ℕ
part_bytes = (list_limit - 1) * sent_bytes longest + last_bytes longest

abbrev pub done_bytes : ℕ
done_bytes = 5

-- a line for each of 256 calls and one where the bytes break off, and the processes and channels, of which none ever
-- has more than 8 entries
abbrev pub replay_bytes : ℕ
replay_bytes = (list_limit + 1) * line_bytes + longest_ending channel_room

-- the longest of the three long ones: 13,456 bytes for a part, 17,574 for what `head` prints of a list, and 143,456 for
-- the cells
abbrev pub console_bytes : ℕ
console_bytes = max (plan_line_bytes plan_bytes + part_bytes) (max replay_bytes (done_bytes + store_cells * cell_bytes))

-- The public promise: the buffer holds the whole of the answer's text, and is otherwise as before. Only which part
-- comes back, of those that the definition allows, is open.
pub record Tells (input before after : List ℕ) (r : ℕ) : Type 0 where
  pub part : List ℕ
  pub allowed : PartIn (console input) part
  pub text : WholeText (console_text (console input) part) before after r
