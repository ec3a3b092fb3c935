-- What every step does alike: its effect is accepted, the topology stays, and the line is raised by a commit alone.
use Prim.Native.Nat.{ℕ, ◌+◌}
use mathlib.Core.Path.{◌≡◌, refl, sym, subst}
use mathlib.Core.Bool.{true, cond}
use mathlib.Core.List.{List, [], ◌∷◌}
use mathlib.Core.Option.{Option, none, some}
use lib.ListN.{length}
use native.Mathlib.Omega.{arith}
use Rattle.model.specs.declared.Entry.{Entry}
use Rattle.model.specs.declared.Entry.TheVariants.{Message, Marker}
use Rattle.model.specs.declared.Step.{Step}
use Rattle.model.specs.declared.Step.TheVariants.{Send, Receive, Begin, PhysicalCheckpoint}
use Rattle.model.specs.declared.Step.TheVariants.{LogicalCheckpoint, SendMarker, Commit, Abort}
use Rattle.model.specs.Topology.{receiver, is_late, first_early}
use Rattle.model.specs.State.{GlobalState, no_counts, raised_all}
use Rattle.model.specs.Change.{with_round, with_word, with_tag, with_channel, with_progress, with_counts, in_phase}
use Rattle.model.specs.Change.{set_entries, enter_message, logical_checkpoint, close, record_saved, record_sent}
use Rattle.model.specs.Change.{end_round}
use Rattle.model.specs.Outcome.{refused}
use Rattle.model.specs.Heard.{heard, accepted}
use Rattle.model.specs.Write.{Answered, under_budget}
use Rattle.model.specs.Receive.{Reaction}
use Rattle.model.specs.Step.{quietly, next_line, reaction, react, received_outcome, receive, after_physical, effect}
use Rattle.model.specs.Step.{physical_at, physical_from, step, answer}
use Rattle.model.specs.Run.{call, is_commit, count_commit}
use Rattle.model.proofs.laws.Tests.{either}
use Rattle.model.proofs.laws.Calls.{Stepped, stopped, passes, step_cases, Powered, lost, lasts, power_cases}

pub received_accepted : (e : Entry) → accepted (received_outcome e) ≡ true
unfolding received_outcome
received_accepted (Message b t) = refl
received_accepted Marker = refl

pub effect_accepted : (s : GlobalState) (x : Step) → accepted (effect s x).outcome ≡ true
unfolding effect quietly receive
effect_accepted s (Send c b) = refl
effect_accepted s (Receive c) = go (s.channel c)
  where
    go : (es : List Entry) → accepted (receive s c es).outcome ≡ true
    go [] = refl
    go (e ∷ es) = received_accepted e
effect_accepted s Begin = refl
effect_accepted s (PhysicalCheckpoint p) = refl
effect_accepted s (LogicalCheckpoint p) = refl
effect_accepted s (SendMarker c) = refl
effect_accepted s Commit = refl
effect_accepted s Abort = refl

-- x has the topology of s, and this line
pub record Follows (s x : GlobalState) (k : ℕ) : Type 0 where
  pub topology : x.topology ≡ s.topology
  pub line : x.round.line ≡ k

react_follows : (x : Reaction) (c r : ℕ) (s : GlobalState) → Follows s (react x c r s) s.round.line
unfolding react close logical_checkpoint with_tag with_progress with_counts
react_follows x c r s = either Kept x.closes _ _ (closed saved) saved
  where
    Kept : GlobalState → Type 0
    Kept y = Follows s y s.round.line

    counted : GlobalState
    counted = with_counts (raised_all x.logs s.counts) s

    saved : Kept (cond x.logical_first (logical_checkpoint r counted) counted)
    saved =
        either Kept x.logical_first _ _ (record { topology = refl; line = refl })
        (record { topology = refl; line = refl })

    closed : {y : GlobalState} → Kept y → Kept (close c y)
    closed h = record { topology = h.topology; line = h.line }

receive_follows : (s : GlobalState) (c : ℕ) (es : List Entry) → Follows s (receive s c es).state s.round.line
unfolding receive quietly enter_message set_entries with_channel with_word
receive_follows s c [] = record { topology = refl; line = refl }
receive_follows s c (Message b t ∷ es) =
    let h = react_follows (reaction s c (Message b t)) c (receiver s.topology c) s in
    record { topology = h.topology; line = h.line }
receive_follows s c (Marker ∷ es) =
    let h = react_follows (reaction s c Marker) c (receiver s.topology c) s in
    record { topology = h.topology; line = h.line }

physical_follows : (from : ℕ) (s : GlobalState) → Follows s (physical_from from s) s.round.line
unfolding physical_from physical_at in_phase with_round with_progress
physical_follows from s = go (first_early s.topology.processes s.topology.late from)
  where
    go : (o : Option ℕ) → Follows s (physical_at o s) s.round.line
    go (some p) = record { topology = refl; line = refl }
    go none = record { topology = refl; line = refl }

effect_follows : (budget : ℕ) (s : GlobalState) (x : Step)
    → Follows s (effect s x).state (count_commit (call x budget) (heard (effect s x).outcome) s.round.line)
unfolding effect quietly next_line after_physical set_entries with_channel with_round with_tag with_progress with_counts
    record_saved logical_checkpoint record_sent end_round count_commit is_commit
effect_follows budget s (Send c b) = record { topology = refl; line = refl }
effect_follows budget s (Receive c) = rw (effect_accepted s (Receive c)) (receive_follows s c (s.channel c))
effect_follows budget s Begin =
    let h = physical_follows 0 (with_counts no_counts s) in record { topology = h.topology; line = h.line }
effect_follows budget s (PhysicalCheckpoint p) =
    either (λ (y : GlobalState). Follows s y s.round.line) (is_late s.topology p) _ _
    (record { topology = refl; line = refl }) (physical_follows (p + 1) s)
effect_follows budget s (LogicalCheckpoint p) = record { topology = refl; line = refl }
effect_follows budget s (SendMarker c) = record { topology = refl; line = refl }
effect_follows budget s Commit = record { topology = refl; line = refl }
effect_follows budget s Abort = record { topology = refl; line = refl }

pub effect_topology : (s : GlobalState) (x : Step) → (effect s x).state.topology ≡ s.topology
effect_topology s x = (effect_follows 0 s x).topology

pub answer_follows : (s : GlobalState) (x : Step) (store : List ℕ) (budget : ℕ)
    → Follows s (answer s x store budget).state
    (count_commit (call x budget) (heard (answer s x store budget).outcome) s.round.line)
unfolding answer quietly count_commit
answer_follows s x store budget = go (step_cases s (length store) x)
  where
    After : Answered → Type 0
    After a = Follows s a.state (count_commit (call x budget) (heard a.outcome) s.round.line)

    -- a call that is not accepted is no commit
    stays : Follows s s s.round.line
    stays = record { topology = refl; line = refl }

    refuses : (r : ℕ) → Powered budget s store (quietly (refused r) s)
        → After (under_budget budget s store (quietly (refused r) s))
    refuses r (lost l q) = absurd (omega arith)
    refuses r (lasts l q) = subst After (sym q) stays

    does : Powered budget s store (effect s x) → After (under_budget budget s store (effect s x))
    does (lost l q) = subst After (sym q) stays
    does (lasts l q) = subst After (sym q) (effect_follows budget s x)

    go : Stepped s (length store) x → After (under_budget budget s store (step s (length store) x))
    go (stopped r e) = rw e (refuses r (power_cases budget s store (quietly (refused r) s)))
    go (passes a e) = rw e (does (power_cases budget s store (effect s x)))
