-- What a program such as `head` prints on any store, and how long that is.
use Rattle.std.specs.Prelude.{ℕ, ◌+◌, ◌*◌, ◌/◌, ◌≤◌, ◌≡◌, List, length}
use Rattle.std.proofs.Math.Option.{none}
use Rattle.model.specs.declared.Topology.{Topology}
use Rattle.model.specs.Topology.{topology_refusal}
use Rattle.model.specs.Layout.{store_cells}
use Rattle.model.specs.Program.{BudgetSource, Session, Played, input_bytes, session_of, report}
use Rattle.report.specs.Appends.{Appends}
use Rattle.report.specs.TextBytes.{line_bytes, cell_bytes}
use Rattle.report.specs.Text.{output_text}
use Rattle.report.specs.Ending.{longest_ending}

-- How many bytes an output has at most. A request has at least 2 bytes, and where the bytes break off there is at least
-- 1: so there is at most half a line for each byte, and half a line more.
abbrev pub requests_bytes : ℕ → ℕ
requests_bytes bytes = line_bytes / 2 * (bytes + 1)

-- with the processes and the channels, whose entries are counted by a byte: all that `head` prints
abbrev pub played_bytes : ℕ
played_bytes = requests_bytes input_bytes + longest_ending 255

-- with the cells that `drill` prints: 1,570,350 bytes
abbrev pub output_bytes : ℕ
output_bytes = played_bytes + store_cells * cell_bytes

-- a plan that passes its checks, no more bytes after it than are taken, and a store that is long enough
pub record MayRun (T : Topology) (records store : List ℕ) : Type 0 where
  pub accepted : topology_refusal T ≡ none
  pub taken : length records ≤ input_bytes
  pub cells : store_cells ≤ length store

-- what is played of such a plan
abbrev pub plan_played : BudgetSource → Topology → List ℕ → List ℕ → Played
plan_played source T store records =
    let s : Session = session_of source T store records in record { output = report T s; store = s.store }

-- The output is in the buffer from its start on, and the store is left so.
pub record Plays (x : Played) (before after : List ℕ) (r : ℕ) (left : List ℕ) : Type 0 where
  pub text : Appends played_bytes before 0 (output_text x.output) after r
  pub store : left ≡ x.store
