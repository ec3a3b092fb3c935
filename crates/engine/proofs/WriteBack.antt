-- How the state is seen at a spot, and the state with a turn written back: what `step` needs, once for the eight steps.
use Rattle.std.proofs.Common.{◌≡◌, ℕ, ◌<◌, Bool, true, false, List, length, set, sym, refl, ◌∙◌}
use Rattle.std.proofs.Common.{subst, replicate, Result, Ok, Err, is_ok}
use Rattle.model.specs.declared.State.{State}
use Rattle.model.specs.declared.Flags.{Flags}
use Rattle.model.specs.declared.Counts.{Counts}
use Rattle.model.specs.declared.Places.{Places}
use Rattle.model.specs.declared.Step.{Step}
use Rattle.model.specs.Topology.{process_limit, is_late}
use Rattle.model.specs.Channel.{places_of}
use Rattle.model.specs.State.{view_progress, view_counts}
use Rattle.model.specs.State.{view}
use Rattle.model.specs.Change.{with_channel, plain_channels}
use Rattle.model.specs.Write.{Answered}
use Rattle.model.specs.Step.{has_physical}
use Rattle.model.proofs.laws.Tests.{true_is_not_false}
use Rattle.model.proofs.laws.Functions.{seen_set, seen_replicate}
use Rattle.engine.specs.declared.spot.Subject.{Subject}
use Rattle.engine.specs.declared.spot.Spot.{Spot}
use Rattle.engine.specs.declared.spot.Stop.{Stop}
use Rattle.engine.specs.declared.spot.Turn.{Turn}
use Rattle.engine.specs.Answers.{Meets, Answers}
use Rattle.engine.specs.Spots.{subject_of, Sees, Seen, Turns, put_progress, put_counts, put_back, after_turn}
use Rattle.engine.specs.Spots.{spot_of, answer_of}
use Rattle.engine.proofs.Views.{same_state, channels_set}
use Rattle.engine.proofs.Promises.{step_own}
use Rattle.engine.proofs.Subjects.{Admitted}

-- the spot of a state's subject is what is seen there
pub sees : (s : State) (x : Step) {l : Subject} → subject_of s.topology x ≡ Ok l → Sees (view s) x (spot_of s x l)
unfolding view view_progress view_counts has_physical is_late
sees s x e =
    record {
      subject = e;
      processes = refl;
      channels = refl;
      late = refl;
      round = refl;
      held = refl;
      closed = refl;
      sent = refl;
      in_channel = refl;
      word = refl;
      tag = refl;
      logical = refl;
      saved = refl;
      in_messages = refl;
      first = refl;
      through = refl;
    }

-- a subject that is within the arrays that a turn writes
pub record Inside (s : State) (l : Subject) : Type 0 where
  pub words : l.process < length s.words
  pub tags : l.process < length s.tags
  pub places : l.channel < length s.places
  pub lengths : l.channel < length s.lengths

-- the state that the code answers, whose progress and counts are written
module _ (s : State) (l : Subject) (r : Turn) (f : Flags) (k : Counts) where
  abbrev pub written : List Bool → List Places → List ℕ → State
  written tags places lengths =
      record {
        topology = s.topology;
        round = r.spot.round;
        words = set s.words l.process r.spot.word;
        tags = tags;
        places = places;
        lengths = lengths;
        flags = f;
        counts = k;
      }

  module _ (in_arrays : Inside s l)
      (flags : view_progress f ≡ put_progress r.reset.flags l r.spot (view_progress s.flags))
      (counts : view_counts k ≡ put_counts r.reset.counts l r.spot (view_counts s.counts)) where
    pub put_plain : r.reset.tags ≡ false → (places : Places) (used : ℕ) → places ≡ places_of r.spot.held
        → used ≡ r.spot.held.count
        → view
        (written (set s.tags l.process r.spot.tag) (set s.places l.channel places) (set s.lengths l.channel used))
        ≡ put_back l r (view s)
    unfolding put_back view
    put_plain m places used q u =
        same_state refl refl (seen_set (λ v. v) s.words l.process _ 0 in_arrays.words)
        (seen_set (λ v. v) s.tags l.process _ false in_arrays.tags ∙ rw m)
        (channels_set s l.channel in_arrays.places in_arrays.lengths r.spot.held places used q u ∙ rw m) flags counts

    -- all tags set back, and the planned channels with their messages alone
    pub put_tags : r.reset.tags ≡ true → (now : State)
        → let before = view (written (replicate process_limit false) s.places s.lengths) in
        view now ≡ with_channel (plain_channels before) before
        → view now ≡ put_back l r (view s)
    unfolding put_back view with_channel plain_channels
    put_tags m now h =
        h
        ∙ same_state refl refl (seen_set (λ v. v) s.words l.process _ 0 in_arrays.words)
        (seen_replicate process_limit false ∙ rw m) (rw m) flags counts

-- the answer of the code, by the turn
module _ (s : State) (x : Step) (before : List ℕ) (budget : ℕ) {l : Subject} (d : Admitted s x (length before) l)
    {at : Spot} (e : at ≡ spot_of s x l) where
  pub spot_seen : Seen x at
  spot_seen = rw e (record { state = view s; sees = sees s x d.subject; sound = d.sound })

  turned : {after : List ℕ} (r : Result Turn Stop) → Turns at x before budget r after
      → (next : State) → view next ≡ after_turn (spot_of s x l) r (view s) → (is_ok r ≡ false → next ≡ s)
      → Answers s x before budget (answer_of budget r next) after
  turned {after} r t next h kept =
      let u = rw e at t in
      step_own s x before budget d.sound d.store _ after
      (subst (λ (y : Answered). Meets s y (answer_of budget r next) after)
      (sym (u.answered (view s) (sees s x d.subject)))
      (record { outcome = refl; made = refl; state = h; kept = λ f. kept (sym u.went ∙ f); store = refl }))

  pub step_stopped : {after : List ℕ} (stop : Stop) → Turns at x before budget (Err stop) after
      → Answers s x before budget (answer_of budget (Err stop) s) after
  step_stopped stop t = turned (Err stop) t s refl (λ _. refl)

  pub step_went : {after : List ℕ} (r : Turn) → Turns at x before budget (Ok r) after
      → (next : State) → view next ≡ put_back l r (view s)
      → Answers s x before budget (answer_of budget (Ok r) next) after
  step_went r t next h = turned (Ok r) t next h (λ never. true_is_not_false refl never)
