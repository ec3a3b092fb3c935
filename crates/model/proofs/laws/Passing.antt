-- What a step has passed whose checks found nothing to refuse: for each step a record with names. The room on a channel
-- and the room in a log are apart from the rest, as in the definition.
use Prim.Native.Nat.{ℕ, ◌<◌}
use mathlib.Core.Path.{◌≡◌, refl}
use mathlib.Core.Bool.{Bool, true, false, not, ◌&&◌, ◌||◌}
use mathlib.Core.List.{List, [], ◌∷◌, ◌++◌}
use mathlib.Core.Option.{none, some-ne-none}
use lib.Dec.{ltb, eqb}
use borrow.Author.Tests.{ltb-true, not-false, not-true}
use Rattle.model.specs.declared.Step.{Step}
use Rattle.model.specs.declared.Step.TheVariants.{Send, Receive, Begin, PhysicalCheckpoint}
use Rattle.model.specs.declared.Step.TheVariants.{LogicalCheckpoint, SendMarker, Commit, Abort}
use Rattle.model.specs.Check.{Check, first_refusal}
use Rattle.model.specs.Topology.{sender, has_process, has_channel, is_late}
use Rattle.model.specs.Channel.{no_entry}
use Rattle.model.specs.Phase.{is_idle, is_logical, is_next}
use Rattle.model.specs.State.{GlobalState}
use Rattle.model.specs.Sound.{last_line}
use Rattle.model.specs.Step.{may_checkpoint_physically, may_checkpoint_logically, may_send_marker}
use Rattle.model.specs.Step.{has_physical, may_commit, marker_on_closed, prior_checks}
use Rattle.model.proofs.laws.Tests.{and_left, and_right, Tested, holds, fails, test}
use Rattle.model.proofs.laws.Lists.{all_at}

-- no check of the list fails: its tests' equations, in order
abbrev pub Passed : List Check → Type 0
Passed [] = Unit {0}
Passed (c ∷ cs) = (c.fails ≡ false) × Passed cs

pub passed : (cs : List Check) → first_refusal cs ≡ none → Passed cs
unfolding first_refusal
passed [] e = tt
passed (c ∷ cs) e = go (test c.fails) (passed cs)
  where
    go : Tested c.fails → (first_refusal cs ≡ none → Passed cs) → Passed (c ∷ cs)
    go (holds f) rest = absurd (some-ne-none c.refusal (rw f at e))
    go (fails f) rest = (f, rest (rw f at e))

-- and back
pub none_fails : (cs : List Check) → Passed cs → first_refusal cs ≡ none
unfolding first_refusal
none_fails [] p = refl
none_fails (c ∷ cs) p = rw p.0 (none_fails cs p.1)

-- two lists of checks one after the other
pub passed_both : (cs ds : List Check) → Passed (cs ++ ds) → Passed cs × Passed ds
passed_both [] ds p = (tt, p)
passed_both (c ∷ cs) ds p = let q = passed_both cs ds p.1 in ((p.0, q.0), q.1)

pub both_passed : (cs ds : List Check) → Passed cs → Passed ds → Passed (cs ++ ds)
both_passed [] ds p q = q
both_passed (c ∷ cs) ds p q = (p.0, both_passed cs ds p.1 q)

-- an index that passed "no such board or wire"
pub below : (i n : ℕ) → not (ltb i n) ≡ false → i < n
below i n e = ltb-true i n (not-false (ltb i n) e)

module _ (s : GlobalState) where
  -- what each step has passed, but for the room on a channel and in a log
  pub record MayReceive (c : ℕ) : Type 0 where
    pub planned : c < s.topology.channels
    pub entry : no_entry (s.channel c) ≡ false
    pub unclosed : marker_on_closed s c ≡ false

  pub record MayBegin : Type 0 where
    pub idle : is_idle s.round.phase ≡ true
    pub line : eqb s.round.line last_line ≡ false

  -- whose turn it is: an early process is the next one, a late one has its logical checkpoint and no physical one yet
  pub data Turn (p : ℕ) : Type 0 where
    early : is_late s.topology p ≡ false → is_next s.round.phase p ≡ true → Turn p
    late : is_late s.topology p ≡ true → is_logical s.round.phase ≡ true → s.progress.logical p ≡ true
        → s.progress.saved p ≡ false → Turn p

  pub record MayCheckpointPhysically (p : ℕ) : Type 0 where
    pub planned : p < s.topology.processes
    pub turn : Turn p

  pub record MayCheckpointLogically (p : ℕ) : Type 0 where
    pub planned : p < s.topology.processes
    pub phase : is_logical s.round.phase ≡ true
    pub unmarked : s.progress.logical p ≡ false
    pub turn : (eqb p 0 || s.progress.logical 0) ≡ true

  pub record MaySendMarker (c : ℕ) : Type 0 where
    pub planned : c < s.topology.channels
    pub phase : is_logical s.round.phase ≡ true
    pub sender : s.progress.logical (sender s.topology c) ≡ true
    pub unsent : s.progress.sent c ≡ false

  pub record MayCommit : Type 0 where
    pub phase : is_logical s.round.phase ≡ true
    pub processes : (p : ℕ) → p < s.topology.processes → s.progress.logical p ≡ true
    pub saved : (p : ℕ) → p < s.topology.processes → is_late s.topology p ≡ true → s.progress.saved p ≡ true
    pub channels : (c : ℕ) → c < s.topology.channels → s.progress.closed c ≡ true

  abbrev pub Prior : Step → Type 0
  Prior (Send c b) = c < s.topology.channels
  Prior (Receive c) = MayReceive c
  Prior Begin = MayBegin
  Prior (PhysicalCheckpoint p) = MayCheckpointPhysically p
  Prior (LogicalCheckpoint p) = MayCheckpointLogically p
  Prior (SendMarker c) = MaySendMarker c
  Prior Commit = MayCommit
  Prior Abort = is_idle s.round.phase ≡ false

  -- a conjunction of three, taken apart
  three : (a b c : Bool) → not (a && b && c) ≡ false → (a ≡ true) × (b ≡ true) × (c ≡ true)
  three a b c e =
      let all = not-false (a && b && c) e in
      let two = and_left (a && b) c all in (and_left a b two, and_right a b two, and_right (a && b) c all)

  turn_of : (p : ℕ) → not (may_checkpoint_physically s p) ≡ false → Turn p
  unfolding may_checkpoint_physically
  turn_of p e = go (test (is_late s.topology p))
    where
      go : Tested (is_late s.topology p) → Turn p
      go (holds l) =
          let (phase, logical, unsaved) = three _ _ _ (rw l at e) in late l phase logical (not-true _ unsaved)
      go (fails l) = early l (not-false _ (rw l at e))

  pub prior : (x : Step) → Passed (prior_checks s x) → Prior x
  unfolding prior_checks has_channel has_process may_checkpoint_logically may_send_marker may_commit has_physical
  prior (Send c b) p = below _ _ p.0
  prior (Receive c) p =
      let (planned, (entry, (unclosed, _))) = p in
      record { planned = below _ _ planned; entry = entry; unclosed = unclosed }
  prior Begin p = record { idle = not-false _ p.0; line = p.1.0 }
  prior (PhysicalCheckpoint q) p = record { planned = below _ _ p.0; turn = turn_of q p.1.0 }
  prior (LogicalCheckpoint q) p =
      let (phase, unmarked, turn) = three _ _ _ p.1.0 in
      record { planned = below _ _ p.0; phase = phase; unmarked = not-true _ unmarked; turn = turn }
  prior (SendMarker c) p =
      let (phase, sender, unsent) = three _ _ _ p.1.0 in
      record { planned = below _ _ p.0; phase = phase; sender = sender; unsent = not-true _ unsent }
  prior Commit p =
      let (phase, processes, channels) = three _ _ _ p.0 in
      let each = all_at s.topology.processes _ processes in
      record {
        phase = phase;
        processes = λ q l. and_left _ _ (each q l);
        saved = λ q l e. rw e at (and_right (s.progress.logical q) _ (each q l));
        channels = all_at _ _ channels;
      }
  prior Abort p = p.0
