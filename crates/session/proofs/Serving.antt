-- Laws of serving one request: a step's answer, a recover that is ready, one that is refused.
use Prim.Native.Nat.{ℕ}
use mathlib.Core.Path.{refl}
use Rattle.std.specs.Prelude.{Ok, Err}
use mathlib.Core.List.{List}
use Rattle.model.specs.declared.Answer.{Answer}
use Rattle.model.specs.declared.Refusal.{Refusal}
use Rattle.model.specs.declared.State.{State}
use Rattle.model.specs.declared.Step.{Step}
use Rattle.model.specs.declared.Record.TheVariants.{Call, Recover}
use Rattle.model.specs.declared.Topology.{Topology}
use Rattle.model.specs.State.{view}
use Rattle.model.specs.Outcome.{line, refused, said_by, refusal_number}
use Rattle.model.specs.Start.{recover, line_or, recover_said, state_or}
use Rattle.model.specs.Program.{serve, of_answer, of_startup}
use Rattle.engine.specs.Answers.{Answers}
use Rattle.recovery.specs.Starts.{Starts}
use Rattle.report.specs.Appends.{Appends}
use Rattle.report.specs.TextBytes.{line_bytes}
use Rattle.report.specs.Text.{said_line}
use Rattle.session.specs.declared.serve.Cursor.{Cursor}
use Rattle.session.specs.Serving.{next, served, Serves}

module _ (T : Topology) (cursor : Cursor) {before after : List ℕ} {r : ℕ} where
  pub step_served : (x : Step) (store : List ℕ) (budget : ℕ) {a : Answer} {left : List ℕ}
      → Answers cursor.state x store budget a left
      → Appends line_bytes before cursor.at (said_line cursor.number (said_by a.outcome) a.made) after r
      → Serves cursor (served T cursor store budget (Call x)) before after (next cursor r a.state) left
  unfolding serve of_answer
  step_served x store budget m t =
      record { text = rw (← m.outcome, ← m.made) t; number = refl; state = m.state; store = m.store }

  module _ (store : List ℕ) (budget : ℕ) where
    pub recover_served : {s : State} → Starts (recover T store) (Ok s) store
        → Appends line_bytes before cursor.at (said_line cursor.number (line s.round.line) 0) after r
        → Serves cursor (served T cursor store budget Recover) before after (next cursor r s) store
    unfolding serve of_startup line_or recover_said state_or view
    recover_served m t =
        rw (← m.start) (record { text = rw (← m.state) t; number = refl; state = m.state; store = m.store })

    pub recover_refused : {e : Refusal} → Starts (recover T store) (Err e) store
        → Appends line_bytes before cursor.at (said_line cursor.number (refused (refusal_number e)) 0) after r
        → Serves cursor (served T cursor store budget Recover) before after (next cursor r cursor.state) store
    unfolding serve of_startup line_or recover_said state_or
    recover_refused m t =
        rw (← m.start) (record { text = t; number = refl; state = refl; store = m.store })
