-- Document 01's program `head`, as data: the plan's bytes, and what is answered to the records after them. The text of
-- a line is not here.
use Rattle.std.specs.Prelude.{ℕ, zero, suc, ◌+◌, ◌*◌, Bool, true, false, cond, List, [], ◌∷◌, length, get_or, take}
use Rattle.std.specs.Prelude.{drop, replicate, ltb}
use Rattle.std.proofs.Math.Option.{Option, none, some, or_else}
use Rattle.model.specs.declared.Topology.{Topology}
use Rattle.model.specs.declared.Record.{Record}
use Rattle.model.specs.declared.Record.TheVariants.{Call, Recover}
use Rattle.model.specs.Notation.{tabulate}
use Rattle.model.specs.Outcome.{Said, refused}
use Rattle.model.specs.Check.{◌gives◌, first_refusal}
use Rattle.model.specs.Topology.{channel_limit, topology_refusal, size_refusal}
use Rattle.model.specs.Channel.{bodies}
use Rattle.model.specs.Layout.{store_cells}
use Rattle.model.specs.State.{GlobalState}
use Rattle.model.specs.Write.{Answered}
use Rattle.model.specs.Step.{answer}
use Rattle.model.specs.Start.{Startup, initialize, recover, recover_said, state_or}
use Rattle.model.specs.Record.{Reading, and_then, read_body, read_record}

-- "the first 65,536 bytes of standard input and no more"
abbrev pub input_bytes : ℕ
input_bytes = 65536

-- "boards, wires, two bytes per wire (from, to), then records": byte i, counted from `at`, of channel c's pair
unfoldable pub end_byte : List ℕ → ℕ → ℕ → ℕ
end_byte bytes at c = cond (ltb c (get_or bytes 1 0)) (get_or bytes (at + 2 * c) 0) 0

-- document 02, M-105: "A plan gains a 16-bit map, after its wires, two bytes, lowest first, of late boards.": where it
-- stands, and the map
unfoldable pub map_start : List ℕ → ℕ
map_start bytes = 2 + 2 * get_or bytes 1 0

unfoldable pub late_map : List ℕ → ℕ
late_map bytes = get_or bytes (map_start bytes) 0 + 256 * get_or bytes (map_start bytes + 1) 0

unfoldable pub plan_of : List ℕ → Topology
plan_of bytes =
    record {
      processes = get_or bytes 0 0;
      channels = get_or bytes 1 0;
      from = tabulate channel_limit (end_byte bytes 2);
      to = tabulate channel_limit (end_byte bytes 3);
      late = late_map bytes;
    }

unfoldable pub plan_length : List ℕ → ℕ
plan_length bytes = map_start bytes + 2

-- "The plan's checks run: under two bytes 7; 1; 2; wires broken off 7;": what its sizes tell; document 02, M-105: "A
-- map broken off is 7, before 3."
unfoldable pub shape_refusal : List ℕ → Option ℕ
shape_refusal bytes =
    or_else (first_refusal ((ltb (length bytes) 2 gives 7) ∷ []))
    (or_else (size_refusal (get_or bytes 0 0) (get_or bytes 1 0))
    (first_refusal ((ltb (length bytes) (plan_length bytes) gives 7) ∷ [])))

-- then "3 to 5", and 19, for which the topology's checks stand
unfoldable pub plan_refusal : List ℕ → Option ℕ
plan_refusal bytes = or_else (shape_refusal bytes) (topology_refusal (plan_of bytes))

-- "runs with full current": more writes than any step makes
abbrev pub full_budget : ℕ
full_budget = 4294967295

-- Where a call's budget comes from: full current, or, in the test program `drill`, 4 bytes before each record, lowest
-- first.
pub data BudgetSource : Type 0 where
  full : BudgetSource
  given : BudgetSource

unfoldable pub read_budget : BudgetSource → List ℕ → Reading ℕ
read_budget full bytes = some (full_budget, bytes)
read_budget given bytes = read_body bytes

-- a record and the budget that it is called with
pub record Request : Type 0 where
  pub content : Record
  pub budget : ℕ

unfoldable pub read_request : BudgetSource → List ℕ → Reading Request
read_request source bytes =
    and_then (read_budget source bytes) λ budget rest.
    and_then (read_record rest) λ r after.
    some (record { content = r; budget = budget }, after)

-- "Each line has step number, outcome, stores made."
pub record Line : Type 0 where
  pub number : ℕ
  pub said : Said
  pub made : ℕ

-- the requests that the bytes begin with, and whether the bytes after them aren't one
pub record Readings : Type 0 where
  pub requests : List Request
  pub broken : Bool

unfoldable pub reading_then : Reading Request → (List ℕ → Readings) → Readings
reading_then none more = record { requests = []; broken = true }
reading_then (some r) more = record { requests = r.0 ∷ (more r.1).requests; broken = (more r.1).broken }

-- fuel: at least the number of bytes. "a 7 ends the reading", "the end of the bytes ends it without a line"
unfoldable pub read_all : BudgetSource → ℕ → List ℕ → Readings
read_all source zero bytes = record { requests = []; broken = false }
read_all source (suc fuel) [] = record { requests = []; broken = false }
read_all source (suc fuel) (b ∷ bytes) =
    reading_then (read_request source (b ∷ bytes)) (λ rest. read_all source fuel rest)

-- what is said of one request, and the state and the store after it
pub record Served : Type 0 where
  pub said : Said
  pub made : ℕ
  pub state : GlobalState
  pub store : List ℕ

-- a step's answer
unfoldable pub of_answer : Answered → Served
of_answer a = record { said = a.outcome; made = a.made; state = a.state; store = a.store }

-- a recover's: its line number and the state at that line; or its refusal, and the state is kept
unfoldable pub of_startup : Startup → GlobalState → Served
of_startup r s =
    record { said = recover_said r; made = 0; state = state_or r.refusal r.state s; store = r.store }

unfoldable pub serve : Topology → GlobalState → List ℕ → ℕ → Record → Served
serve T s store budget (Call x) = of_answer (answer s x store budget)
serve T s store budget Recover = of_startup (recover T store) s

-- the lines printed, and the state and the store after the last of them
pub record Session : Type 0 where
  pub lines : List Line
  pub state : GlobalState
  pub store : List ℕ

-- the line of the request served, before the others
unfoldable pub line_then : ℕ → Served → Session → Session
line_then n x more =
    record {
      lines = record { number = n; said = x.said; made = x.made } ∷ more.lines;
      state = more.state;
      store = more.store;
    }

-- the last line, where the bytes broke off: "a 7 ends the reading after such a line with 0 stores"
unfoldable pub broken_line : Bool → ℕ → List Line
broken_line true n = record { number = n; said = refused 7; made = 0 } ∷ []
broken_line false n = []

-- n: the number of the next line
unfoldable pub session : Topology → Bool → ℕ → GlobalState → List ℕ → List Request → Session
session T broken n s store [] = record { lines = broken_line broken n; state = s; store = store }
session T broken n s store (r ∷ rs) =
    let x : Served = serve T s store r.budget r.content in
    line_then n x (session T broken (n + 1) x.state x.store rs)

-- a session from its n-th line on, in this state, on this store and with these bytes left
unfoldable pub session_from : BudgetSource → Topology → ℕ → GlobalState → List ℕ → List ℕ → Session
session_from source T n s store bytes =
    let all : Readings = read_all source (length bytes) bytes in session T all.broken n s store all.requests

-- a whole session, from initialize on the store that there is, with these bytes after the plan
unfoldable pub session_of : BudgetSource → Topology → List ℕ → List ℕ → Session
session_of source T store bytes = session_from source T 1 (initialize T store).state (initialize T store).store bytes

-- "Last come each board with its word, and each wire with its message count and bodies."
pub data Output : Type 0 where
  plan_refused : ℕ → Output
  ran : List Line → List ℕ → List (List ℕ) → Output

unfoldable pub report : Topology → Session → Output
report T session =
    ran session.lines (tabulate T.processes session.state.word)
    (tabulate T.channels (λ c. bodies (session.state.channel c)))

-- what a program prints, as data, and the store that is left
pub record Played : Type 0 where
  pub output : Output
  pub store : List ℕ

-- "It prints `plan refused n` and stops, or runs": on this store, with budgets from this source
unfoldable pub played_of : Option ℕ → BudgetSource → List ℕ → List ℕ → Played
played_of (some n) source store bytes = record { output = plan_refused n; store = store }
played_of none source store bytes =
    let s : Session = session_of source (plan_of bytes) store (drop (plan_length bytes) bytes) in
    record { output = report (plan_of bytes) s; store = s.store }

unfoldable pub played : BudgetSource → List ℕ → List ℕ → Played
played source store input =
    played_of (plan_refusal (take input_bytes input)) source store (take input_bytes input)

-- "with full current", on a store of zeros
unfoldable pub head : List ℕ → Output
head input = (played full (replicate store_cells 0) input).output
