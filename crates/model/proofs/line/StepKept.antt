-- Every call of a step keeps the invariant: refused, with the power lost, or done. The room on a channel is not asked
-- for: the invariant holds whatever the rule for it.
use Prim.Native.Nat.{ℕ}
use mathlib.Core.Path.{◌≡◌, refl, sym, ap, subst}
use mathlib.Core.List.{List, []}
use mathlib.Core.Option.{none}
use lib.ListN.{length}
use native.Mathlib.Omega.{arith}
use Rattle.model.specs.declared.Topology.{Topology}
use Rattle.model.specs.declared.Step.{Step}
use Rattle.model.specs.declared.Step.TheVariants.{Send, Receive, Begin, PhysicalCheckpoint}
use Rattle.model.specs.declared.Step.TheVariants.{LogicalCheckpoint, SendMarker, Commit, Abort}
use Rattle.model.specs.Topology.{topology_refusal}
use Rattle.model.specs.State.{GlobalState}
use Rattle.model.specs.Outcome.{refused}
use Rattle.model.specs.Heard.{heard}
use Rattle.model.specs.Write.{Answered, Result, write_all, under_budget}
use Rattle.model.specs.Step.{log_checks, effect, quietly, step, answer}
use Rattle.model.specs.History.{History, on_step, on_accepted}
use Rattle.model.proofs.laws.Passing.{Passed, Prior}
use Rattle.model.proofs.laws.Calls.{Stepped, stopped, passes, step_cases, Powered, lost, lasts, power_cases}
use Rattle.model.proofs.laws.SoundLaws.{Fits, sound_facts}
use Rattle.model.proofs.laws.TopologyLaws.{sender_planned, receiver_planned}
use Rattle.model.proofs.line.Invariant.{EndsPlanned, Inv, KeepsBy, Keeps}
use Rattle.model.proofs.line.Phases.{is_logical_lem}
use Rattle.model.proofs.line.SendKept.{send_kept}
use Rattle.model.proofs.line.ReceiveKept.{receive_kept}
use Rattle.model.proofs.line.BeginKept.{begin_kept}
use Rattle.model.proofs.line.PhysicalKept.{physical_kept}
use Rattle.model.proofs.line.LogicalKept.{logical_kept}
use Rattle.model.proofs.line.MarkerKept.{marker_kept}
use Rattle.model.proofs.line.CommitKept.{commit_kept}
use Rattle.model.proofs.line.AbortKept.{abort_kept}

pub ends_planned : (T : Topology) → topology_refusal T ≡ none → EndsPlanned T
ends_planned T e c l = (sender_planned T e c l, receiver_planned T e c l)

module _ (s : GlobalState) (st : List ℕ) (h : History) (i : Inv s st h) where
  -- a step without writes: there is no power to lose
  quiet_kept : (x : Step) → (effect s x).writes ≡ [] → KeepsBy s st h x (effect s x) → Keeps s st h x
  quiet_kept x e kept = record { lasts = kept; lost = λ b k. absurd (omega (arith, ap length e)) }

  -- an accepted step
  accepted_kept : (x : Step) → EndsPlanned s.topology → Fits s.topology s.counts → Prior s x
      → Passed (log_checks s x) → Keeps s st h x
  unfolding log_checks effect quietly write_all on_step on_accepted
  accepted_kept (Send c b) ends f p q = quiet_kept (Send c b) refl (send_kept s st h c b p ends i)
  accepted_kept (Receive c) ends f p q = receive_kept s st h c p.planned ends f i p.entry q.0
  accepted_kept Begin ends f p q = begin_kept s st h ends p.idle i
  accepted_kept (PhysicalCheckpoint r) ends f p q = physical_kept s st h r ends p f i
  accepted_kept (LogicalCheckpoint r) ends f p q =
      quiet_kept (LogicalCheckpoint r) refl
      (logical_kept s st h r p.planned (is_logical_lem _ p.phase) p.unmarked i)
  accepted_kept (SendMarker c) ends f p q = quiet_kept (SendMarker c) refl (marker_kept s st h c p i)
  accepted_kept Commit ends f p q = commit_kept s st h ends p f i
  accepted_kept Abort ends f p q = quiet_kept Abort refl (abort_kept s st h i)

  -- the invariant after an answer
  abbrev After : Step → Answered → Type 0
  After x a = Inv a.state a.store (on_step s.topology x (heard a.outcome) h)

  -- of a call that is not accepted the histories hear nothing
  pub step_kept : (x : Step) (budget : ℕ) → After x (answer s x st budget)
  unfolding answer quietly write_all on_step
  step_kept x budget = go (step_cases s (length st) x)
    where
      refused_kept : (r : ℕ) → Powered budget s st (quietly (refused r) s)
          → After x (under_budget budget s st (quietly (refused r) s))
      refused_kept r (lost l q) = absurd (omega arith)
      refused_kept r (lasts l q) = subst (After x) (sym q) i

      powered : Keeps s st h x → Powered budget s st (effect s x) → After x (under_budget budget s st (effect s x))
      powered kept (lost l q) = subst (After x) (sym q) (kept.lost budget l)
      powered kept (lasts l q) = subst (After x) (sym q) kept.lasts

      go : Stepped s (length st) x → After x (under_budget budget s st (step s (length st) x))
      go (stopped r e) =
          subst (λ (y : Result). After x (under_budget budget s st y)) (sym e)
          (refused_kept r (power_cases budget s st (quietly (refused r) s)))
      go (passes a e) =
          let fit = sound_facts s a.fit in
          subst (λ (y : Result). After x (under_budget budget s st y)) (sym e)
          (powered (accepted_kept x (ends_planned s.topology fit.topology) fit.logs a.prior a.logs)
          (power_cases budget s st (effect s x)))
