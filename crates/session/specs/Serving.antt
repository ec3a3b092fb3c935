-- What the functions that serve requests and print their lines promise.
use Rattle.std.specs.Prelude.{ℕ, ◌+◌, ◌≡◌, List}
use Rattle.model.specs.declared.Record.{Record}
use Rattle.model.specs.declared.State.{State}
use Rattle.model.specs.declared.Topology.{Topology}
use Rattle.model.specs.State.{GlobalState, view}
use Rattle.model.specs.Program.{Served, Session, serve}
use Rattle.report.specs.Appends.{Appends}
use Rattle.report.specs.TextBytes.{line_bytes}
use Rattle.report.specs.Text.{line_text, lines_text}
use Rattle.session.specs.declared.serve.Cursor.{Cursor}
use Rattle.session.specs.Output.{requests_bytes}

-- the next place, after a line that ends at `at`
abbrev pub next : Cursor → ℕ → State → Cursor
next cursor at s = record { number = cursor.number + 1; at = at; state = s }

-- what is said of a record at this place of the session
abbrev pub served : Topology → Cursor → List ℕ → ℕ → Record → Served
served T cursor store budget r = serve T (view cursor.state) store budget r

-- The line of the request that was served is appended to the buffer, the store is left so, and the session goes on from
-- the next place.
pub record Serves (cursor : Cursor) (x : Served) (before after : List ℕ) (next : Cursor) (left : List ℕ) : Type 0 where
  pub text : Appends line_bytes before cursor.at
      (line_text (record { number = cursor.number; said = x.said; made = x.made })) after next.at
  pub number : next.number ≡ cursor.number + 1
  pub state : view next.state ≡ x.state
  pub store : left ≡ x.store

-- The lines of a session of so many bytes are appended to the buffer, and its last state and store are these.
pub record Prints (bytes : ℕ) (x : Session) (before : List ℕ) (at : ℕ) (after : List ℕ) (r : ℕ) (s : GlobalState)
    (left : List ℕ) : Type 0 where
  pub text : Appends (requests_bytes bytes) before at (lines_text x.lines) after r
  pub state : s ≡ x.state
  pub store : left ≡ x.store
