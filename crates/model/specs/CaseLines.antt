-- What the definitions answer, as lines of numbers: what the table of cases (Cases) is written in.
use Rattle.std.specs.Prelude.{ℕ, ◌+◌, Bool, false, cond, List, [], ◌∷◌, ◌++◌, map, length, take, drop, replicate}
use Rattle.std.proofs.Math.Option.{none, some}
use Rattle.model.specs.declared.Topology.{Topology}
use Rattle.model.specs.declared.Entry.{Entry}
use Rattle.model.specs.declared.Entry.TheVariants.{Message, Marker}
use Rattle.model.specs.declared.Record.{Record}
use Rattle.model.specs.declared.Record.TheVariants as records
use Rattle.model.specs.declared.Step.{Step}
use Rattle.model.specs.Notation.{tabulate}
use Rattle.model.specs.Layout.{store_cells}
use Rattle.model.specs.State.{GlobalState, idle_state}
use Rattle.model.specs.Write.{Answered}
use Rattle.model.specs.Step.{answer}
use Rattle.model.specs.Outcome as says
use Rattle.model.specs.Record.{Reading, fields_of}
use Rattle.model.specs.Program as program
use Rattle.model.specs.Run.{World, run, first_world}
use Rattle.model.specs.ProgramsAreRuns.{call_of}

-- a row of the table: what the definitions give, and what the papers say
pub record Case : Type 0 where
  pub got : List (List ℕ)
  pub expected : List (List ℕ)

-- The output's words as numbers: the code of the first letter. So a line of numbers reads as the program prints it, and
-- no two lines look alike.
abbrev pub done : ℕ
done = 0x64

abbrev pub sent : ℕ
sent = 0x73

abbrev pub took : ℕ
took = 0x74

abbrev pub note : ℕ
note = 0x6E

abbrev pub line : ℕ
line = 0x6C

abbrev pub refused : ℕ
refused = 0x72

abbrev pub board : ℕ
board = 0x62

abbrev pub wire : ℕ
wire = 0x77

-- two words that the program never prints: document 01's "cut", and a message on a channel
abbrev pub power_lost : ℕ
power_lost = 0x70

abbrev pub message : ℕ
message = 0x6D

unfoldable pub said_word : says.Said → ℕ
said_word says.done = done
said_word (says.sent room) = sent
said_word (says.took body) = took
said_word says.note = note
said_word (says.line k) = line
said_word (says.refused n) = refused
said_word says.cut = power_lost

-- "Each line has step number, outcome, stores made."
unfoldable pub line_numbers : program.Line → List ℕ
line_numbers l = l.number ∷ said_word l.said ∷ says.said_values l.said ++ (l.made ∷ [])

-- a line for each of these, which are numbered from n on
unfoldable pub numbered : {A : Type 0} → (ℕ → A → List ℕ) → ℕ → List A → List (List ℕ)
numbered f n [] = []
numbered f n (x ∷ xs) = f n x ∷ numbered f (n + 1) xs

-- "Last come each board with its word, and each wire with its message count and bodies."
unfoldable pub output_numbers : program.Output → List (List ℕ)
output_numbers (program.plan_refused n) = (refused ∷ n ∷ []) ∷ []
output_numbers (program.ran lines words channels) =
    map line_numbers lines
    ++ numbered (λ p word. board ∷ p ∷ word ∷ []) 0 words
    ++ numbered (λ c bodies. wire ∷ c ∷ length bodies ∷ bodies) 0 channels

-- what the program prints for these bytes
unfoldable pub printed : List ℕ → List (List ℕ)
printed bytes = output_numbers (program.head bytes)

-- the steps that these bytes ask for, and what there is after the first n of them
unfoldable pub steps_of : List ℕ → List program.Request
steps_of bytes = (program.read_all program.full (length bytes) (drop (program.plan_length bytes) bytes)).requests

unfoldable pub after_steps : List ℕ → ℕ → World
after_steps bytes n =
    run (program.plan_of bytes) (first_world (program.plan_of bytes) (replicate store_cells 0))
    (map call_of (take n (steps_of bytes)))

-- what a step answers there
unfoldable pub answer_in : World → Step → ℕ → Answered
answer_in w x budget = answer w.state x w.store budget

-- a world with another state; and an idle state with the plan of these bytes, whether it is refused or not
unfoldable pub in_state : (GlobalState → GlobalState) → World → World
in_state f w = record { state = f w.state; store = w.store; history = w.history; commits = w.commits }

unfoldable pub under_plan : List ℕ → GlobalState → GlobalState
under_plan bytes s = idle_state (program.plan_of bytes) s.round.line s.word s.channel

-- an answer as line n
unfoldable pub answer_line : ℕ → Answered → List ℕ
answer_line n a = line_numbers (record { number = n; said = a.outcome; made = a.made })

-- a step with this budget, and a restart
unfoldable pub calling : Step → ℕ → program.Request
calling x budget = record { content = records.Call x; budget = budget }

unfoldable pub recovering : program.Request
recovering = record { content = records.Recover; budget = program.full_budget }

-- what the program prints after the first n steps that these bytes ask for, if these requests come then
unfoldable pub then_serves : List ℕ → ℕ → List program.Request → List (List ℕ)
then_serves bytes n requests =
    let w : World = after_steps bytes n in
    let T : Topology = program.plan_of bytes in
    output_numbers (program.report T (program.session T false (n + 1) w.state w.store requests))

-- "a tag, 0 or 1"
unfoldable pub tag_number : Bool → ℕ
tag_number t = cond t 1 0

unfoldable pub entry_numbers : List Entry → List ℕ
entry_numbers [] = []
entry_numbers (Message b t ∷ es) = message ∷ b ∷ tag_number t ∷ entry_numbers es
entry_numbers (Marker ∷ es) = note ∷ entry_numbers es

-- an answer as line n, then each process with its tag and each channel with its entries
unfoldable pub then_tags : ℕ → Answered → List (List ℕ)
then_tags n a =
    answer_line n a
    ∷ tabulate a.state.topology.processes (λ p. board ∷ p ∷ tag_number (a.state.tag p) ∷ [])
    ++ tabulate a.state.topology.channels (λ c. wire ∷ c ∷ entry_numbers (a.state.channel c))

-- what is read: kind, process, channel, body, and the rest of the bytes
unfoldable pub reading_numbers : Reading Record → List ℕ
reading_numbers none = refused ∷ 7 ∷ []
reading_numbers (some r) =
    (fields_of r.0).kind ∷ (fields_of r.0).process ∷ (fields_of r.0).channel ∷ (fields_of r.0).body ∷ r.1
