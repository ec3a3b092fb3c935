-- Laws of a session from one of its lines on: it ends with the bytes, breaks off at a 7, or goes on after a request.
-- And what is printed of it.
use Prim.Native.Nat.{ℕ, ◌+◌, ◌≤◌, ◌<◌}
use mathlib.Core.Path.{◌≡◌, refl, sym, ap}
use mathlib.Core.Bool.{true}
use mathlib.Core.List.{List, [], ◌∷◌, append-nil}
use mathlib.Core.Option.{none, some}
use lib.ListN.{length}
use native.Mathlib.Omega.{arith}
use Rattle.model.specs.declared.Topology.{Topology}
use Rattle.model.specs.Outcome.{refused}
use Rattle.model.specs.Record.{AreBytes}
use Rattle.model.specs.State.{GlobalState, view}
use Rattle.model.specs.Program.{BudgetSource, Request, Readings, Served, Session, read_request, reading_then, read_all}
use Rattle.model.specs.Program.{serve, line_then, broken_line, session, session_from, input_bytes}
use Rattle.report.specs.Appends.{Appends}
use Rattle.report.specs.TextBytes.{line_bytes}
use Rattle.report.specs.Text.{said_line, lines_text}
use Rattle.report.proofs.Appending.{nothing, ◌then◌, at_most}
use Rattle.session.specs.declared.serve.Cursor.{Cursor}
use Rattle.session.specs.Serving.{served, Serves, Prints}
use Rattle.model.proofs.Readings.{After, request_after, fewer, bytes_after, fuel}

-- how a session goes on
module _ (source : BudgetSource) (T : Topology) (n : ℕ) (s : GlobalState) (store : List ℕ) where
  ended : (bytes : List ℕ) → length bytes ≤ 0
      → session_from source T n s store bytes ≡ record { lines = []; state = s; store = store }
  unfolding read_all broken_line session session_from
  ended [] l = refl
  ended (b ∷ bytes) l = absurd (omega arith)

  broken : (bytes : List ℕ) → 0 < length bytes → read_request source bytes ≡ none
      → session_from source T n s store bytes ≡ record { lines = broken_line true n; state = s; store = store }
  unfolding read_all reading_then broken_line session session_from
  broken [] l e = absurd (omega arith)
  broken (b ∷ bytes) l e = rw e

  more : (bytes : List ℕ) (q : Request) (after : List ℕ) → AreBytes bytes → read_request source bytes ≡ some (q, after)
      → let x : Served = serve T s store q.budget q.content in
      session_from source T n s store bytes ≡ line_then n x (session_from source T (n + 1) x.state x.store after)
  unfolding read_all reading_then session session_from
  more [] q after h e = absurd (omega (arith, fewer (request_after source [] h q after e)))
  more (b ∷ bytes) q after h e =
      let a = request_after source (b ∷ bytes) h q after e in
      let x : Served = serve T s store q.budget q.content in
      let same =
      fuel source (length bytes) (length after) after (bytes_after a h) (omega (arith, fewer a)) (omega arith) in
      rw (e, reading_then)
      (ap (λ (r : Readings). line_then n x (session T r.broken (n + 1) x.state x.store r.requests)) same)

-- What the rest of a session, of n bytes, prints at this place is what all of it, of n₀ bytes, prints from where it
-- began.
abbrev pub Leads : ℕ → Session → List ℕ → ℕ → ℕ → Session → List ℕ → ℕ → Type 0
Leads n here out at n₀ all out₀ at₀ =
    (after : List ℕ) (r : ℕ) (s : GlobalState) (left : List ℕ) → Prints n here out at after r s left
    → Prints n₀ all out₀ at₀ after r s left

module _ (source : BudgetSource) (T : Topology) (cursor : Cursor) (store bytes : List ℕ) {out : List ℕ} {n₀ : ℕ}
    {all : Session} {out₀ : List ℕ} {at₀ : ℕ}
    (leads :
    Leads (length bytes) (session_from source T cursor.number (view cursor.state) store bytes) out cursor.at
    n₀ all out₀ at₀) where
  abbrev n : ℕ
  n = cursor.number

  abbrev s : GlobalState
  s = view cursor.state

  pub leads_to_end : length bytes ≤ 0 → Prints n₀ all out₀ at₀ out cursor.at s store
  unfolding lines_text
  leads_to_end l =
      leads out cursor.at s store
      (rw (ended source T n s store bytes l)
      (record { text = at_most (nothing out cursor.at) (omega arith); state = refl; store = refl }))

  pub leads_to_break : {after : List ℕ} {r : ℕ} → 0 < length bytes → read_request source bytes ≡ none
      → Appends line_bytes out cursor.at (said_line n (refused 7) 0) after r → Prints n₀ all out₀ at₀ after r s store
  unfolding lines_text broken_line
  leads_to_break {after} {r} l e t =
      leads after r s store
      (rw (broken source T n s store bytes l e)
      (record { text = rw append-nil (at_most t (omega arith)); state = refl; store = refl }))

  pub leads_on : {out' : List ℕ} {next : Cursor} {store' : List ℕ} (q : Request) (after : List ℕ) → AreBytes bytes
      → read_request source bytes ≡ some (q, after)
      → Serves cursor (served T cursor store q.budget q.content) out out' next store'
      → Leads (length after) (session_from source T next.number (view next.state) store' after) out' next.at
      n₀ all out₀ at₀
  unfolding lines_text line_then
  leads_on q after h e x a r u left p =
      let shorter = fewer (request_after source bytes h q after e) in
      leads a r u left
      (rw (more source T n s store bytes q after h e, ← x.number, ← x.state, ← x.store)
      (record { text = at_most (x.text then p.text) (omega arith); state = p.state; store = p.store }))

-- A place of a session with these bytes left, which are fewer by as many as the line's number is larger.
pub record At (source : BudgetSource) (T : Topology) (n₀ : ℕ) (all : Session) (out₀ : List ℕ) (at₀ : ℕ)
    (cursor : Cursor) (store bytes out : List ℕ) : Type 0 where
  pub lines : cursor.number + length bytes ≤ input_bytes + 1
  pub are_bytes : AreBytes bytes
  pub leads : Leads (length bytes) (session_from source T cursor.number (view cursor.state) store bytes) out cursor.at
      n₀ all out₀ at₀

module _ {source : BudgetSource} {T : Topology} {n₀ : ℕ} {all : Session} {out₀ : List ℕ} {at₀ : ℕ} {cursor : Cursor}
    {store bytes out : List ℕ} (p : At source T n₀ all out₀ at₀ cursor store bytes out) where
  pub ends : length bytes ≤ 0 → Prints n₀ all out₀ at₀ out cursor.at (view cursor.state) store
  ends l = leads_to_end source T cursor store bytes p.leads l

  pub breaks : {after : List ℕ} {r : ℕ} → 0 < length bytes → none ≡ read_request source bytes
      → Appends line_bytes out cursor.at (said_line cursor.number (refused 7) 0) after r
      → Prints n₀ all out₀ at₀ after r (view cursor.state) store
  breaks l e t = leads_to_break source T cursor store bytes p.leads l (sym e) t

  module _ {q : Request} {after : List ℕ} (e : some (q, after) ≡ read_request source bytes) where
    read : After bytes after
    read = request_after source bytes p.are_bytes q after (sym e)

    pub fewer_left : length after < length bytes
    fewer_left = omega (arith, fewer read)

    pub goes_on : {out' : List ℕ} {next : Cursor} {store' : List ℕ}
        → Serves cursor (served T cursor store q.budget q.content) out out' next store'
        → At source T n₀ all out₀ at₀ next store' after out'
    goes_on x =
        record {
          lines = omega (arith, p.lines, fewer read, x.number);
          are_bytes = bytes_after read p.are_bytes;
          leads = leads_on source T cursor store bytes p.leads q after p.are_bytes (sym e) x;
        }
