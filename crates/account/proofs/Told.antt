-- What the past tells of the round, the tags, the flags and the counts, and what each step but a receive makes of it.
use Prim.Native.Nat.{ℕ, ◌+◌, ◌<◌}
use mathlib.Core.Path.{◌≡◌, refl, sym, ap, fun_ext, ◌∙◌}
use mathlib.Core.Bool.{Bool, true, false, cond, not, ◌&&◌, ◌||◌}
use mathlib.Core.List.{◌∷◌}
use mathlib.Core.Option.{Option, none, some}
use lib.ListN.{length}
use lib.Dec.{eqb}
use borrow.Author.Tests.{eq-eqb, ne_eqb}
use Rattle.model.specs.declared.Topology.{Topology}
use Rattle.model.specs.declared.Round.{Round}
use Rattle.model.specs.declared.Phase.{Phase}
use Rattle.model.specs.declared.Phase.TheVariants.{Idle, Physical, Logical}
use Rattle.model.specs.declared.Step.{Step}
use Rattle.model.specs.declared.Step.TheVariants.{Send, Begin, PhysicalCheckpoint, LogicalCheckpoint}
use Rattle.model.specs.declared.Step.TheVariants.{SendMarker, Commit, Abort}
use Rattle.model.specs.declared.Record.TheVariants as records
use Rattle.model.specs.Notation.{upd}
use Rattle.model.specs.Topology.{is_late, first_early}
use Rattle.model.specs.Phase.{is_logical}
use Rattle.model.specs.State.{GlobalState, Progress, LogCounts, no_progress, no_counts}
use Rattle.model.specs.Change.{with_round, with_tag, with_channel, with_progress, with_counts, in_phase, with_logical}
use Rattle.model.specs.Change.{with_saved, with_sent, set_entries, logical_checkpoint, record_saved, record_sent}
use Rattle.model.specs.Change.{end_round}
use Rattle.model.specs.Heard.{heard}
use Rattle.model.specs.Write.{Result, Answered}
use Rattle.model.specs.Step.{quietly, effect, next_line, physical_at, physical_from, after_physical}
use Rattle.model.specs.Record.{fields_of}
use Rattle.model.proofs.laws.Tests.{true_is_not_false, and_false}
use Rattle.model.proofs.laws.Functions.{Indices, same, other, indices, upd_at, upd_other}
use Rattle.model.proofs.laws.Passing.{Turn, early, late, MayBegin, MayCheckpointPhysically, MayCheckpointLogically}
use Rattle.model.proofs.laws.Passing.{MaySendMarker, MayCommit}
use Rattle.model.proofs.line.Phases.{is_idle_lem, is_next_lem}
use Rattle.account.specs.declared.Deed.{Deed}
use Rattle.account.specs.Deeds.{Past, deed_by, any, number, since}
use Rattle.account.proofs.NextEarly.{copying, copying_is}
use Rattle.account.specs.Round.{line_of, copying_from, phase_of, turned, this_round}
use Rattle.account.specs.Progress.{copies, closed_in, marker_sent, saved_in}
use Rattle.account.specs.Logs.{since_clear, messages_logged, channel_logged}
use Rattle.account.specs.Contents.{turned_by}

-- the past's own account
pub record Account : Type 0 where
  pub round : Round
  pub turned : Bool
  pub saved : ℕ → Bool
  pub closed : ℕ → Bool
  pub sent : ℕ → Bool
  pub counts : LogCounts

abbrev pub account_of : Topology → Past → Account
account_of T past =
    record {
      round = record { line = line_of past; phase = phase_of T past };
      turned = turned past;
      saved = λ p. saved_in T p past;
      closed = λ c. closed_in c past;
      sent = λ c. marker_sent c past;
      counts = record { messages = λ p. messages_logged T p past; channels = λ c. channel_logged c past };
    }

-- These parts of a state agree with it, the tags of n processes by their logical checkpoints. Outside the logical phase
-- a round has done nothing.
pub record Agrees (n : ℕ) (now : Round) (tags : ℕ → Bool) (flags : Progress) (logs : LogCounts) (a : Account) : Type 0
  where
    pub round : now ≡ a.round
    pub tag : (p : ℕ) → p < n → tags p ≡ turned_by a.turned (flags.logical p)
    pub saved : flags.saved ≡ a.saved
    pub closed : flags.closed ≡ a.closed
    pub sent : flags.sent ≡ a.sent
    pub counts : logs ≡ a.counts
    pub quiet : is_logical now.phase ≡ false → flags ≡ no_progress

abbrev pub Told : Topology → GlobalState → Past → Type 0
Told T s past = Agrees T.processes s.round s.tag s.progress s.counts (account_of T past)

-- what a step did: by its result, where the power lasts; in a state; and by its answer
abbrev pub deed_with : Step → Result → Deed
deed_with x r = deed_by (fields_of (records.Call x)) (heard r.outcome) (length r.writes)

abbrev pub deed_in : GlobalState → Step → Deed
deed_in s x = deed_with x (effect s x)

abbrev pub deed_after : Step → Answered → Deed
deed_after x a = deed_by (fields_of (records.Call x)) (heard a.outcome) a.made

-- no late process has its physical checkpoint at a round's start
pub none_saved : (T : Topology) → ◌≡◌ {A = ℕ → Bool} (λ p. false) (λ p. is_late T p && false)
none_saved T = fun_ext (λ p. sym (and_false (is_late T p)))

-- a flag raised at i
pub raised_flag : (f g : ℕ → Bool) (i : ℕ) → f ≡ g → upd f i true ≡ (λ (j : ℕ). eqb i j || g j)
unfolding upd
raised_flag f g i e = fun_ext (λ j. go j (eqb i j))
  where
    go : (j : ℕ) (t : Bool) → cond t true (f j) ≡ (t || g j)
    go j true = refl
    go j false = ap (λ (h : ℕ → Bool). h j) e

-- a process gets its logical checkpoint
pub marked_tag : (tags logical : ℕ → Bool) (t : Bool) (p q : ℕ) → logical p ≡ false → tags q ≡ turned_by t (logical q)
    → upd tags p (not (tags p)) q ≡ turned_by t (upd logical p true q)
unfolding turned_by
marked_tag tags logical t p q unmarked e = go (indices p q)
  where
    go : Indices p q → upd tags p (not (tags p)) q ≡ turned_by t (upd logical p true q)
    go (same is) =
        let here : tags p ≡ t = ap tags is ∙ e ∙ ap (turned_by t) (ap logical (sym is) ∙ unmarked) in
        upd_at tags p q _ is ∙ ap not here ∙ sym (ap (turned_by t) (upd_at logical p q true is))
    go (other n) = upd_other tags p q _ n ∙ e ∙ sym (ap (turned_by t) (upd_other logical p q true n))

-- The physical phase goes on from process q on, or the logical one starts, where the round has done nothing.
module _ (s : GlobalState) (t : Bool) {line : ℕ} {saved closed sent : ℕ → Bool} {counts : LogCounts}
    (at_line : s.round.line ≡ line)
    (tagged : (p : ℕ) → p < s.topology.processes → s.tag p ≡ turned_by t (s.progress.logical p))
    (none_yet : s.progress ≡ no_progress) (unsaved : no_progress.saved ≡ saved) (unclosed : no_progress.closed ≡ closed)
    (unsent : no_progress.sent ≡ sent) (counted : s.counts ≡ counts) where
  abbrev In : GlobalState → Phase → Type 0
  In y phase =
      Agrees s.topology.processes y.round y.tag y.progress y.counts
      (record {
        round = record { line = line; phase = phase };
        turned = t;
        saved = saved;
        closed = closed;
        sent = sent;
        counts = counts;
      })

  in_phase_lem : (o : Option ℕ) → In (physical_at o s) (copying o)
  unfolding physical_at in_phase with_round with_progress no_progress
  in_phase_lem none =
      record {
        round = ap (λ (k : ℕ). record { line = k; phase = Logical }) at_line;
        tag = λ p l. tagged p l ∙ ap (λ (f : Progress). turned_by t (f.logical p)) none_yet;
        saved = unsaved;
        closed = unclosed;
        sent = unsent;
        counts = counted;
        quiet = λ e. true_is_not_false refl e;
      }
  in_phase_lem (some p) =
      record {
        round = ap (λ (k : ℕ). record { line = k; phase = Physical p }) at_line;
        tag = tagged;
        saved = ap (λ (f : Progress). f.saved) none_yet ∙ unsaved;
        closed = ap (λ (f : Progress). f.closed) none_yet ∙ unclosed;
        sent = ap (λ (f : Progress). f.sent) none_yet ∙ unsent;
        counts = counted;
        quiet = λ e. none_yet;
      }

  goes_on : (q : ℕ) → In (physical_from q s) (copying_from s.topology q)
  unfolding physical_from
  goes_on q = rw (copying_is s.topology q) (in_phase_lem (first_early s.topology.processes s.topology.late q))

module _ (s : GlobalState) (past : Past) (i : Told s.topology s past) where
  abbrev T : Topology
  T = s.topology

  abbrev Tells : Step → Type 0
  Tells x = Told s.topology (effect s x).state (deed_in s x ∷ past)

  pub send_told : (c b : ℕ) → Tells (Send c b)
  unfolding effect quietly set_entries with_channel deed_by fields_of line_of number phase_of saved_in closed_in
      marker_sent this_round since any messages_logged channel_logged since_clear turned
  send_told c b = i

  pub mark_told : (p : ℕ) → MayCheckpointLogically s p → Tells (LogicalCheckpoint p)
  unfolding effect quietly logical_checkpoint with_tag with_progress with_logical deed_by fields_of line_of number
      phase_of saved_in closed_in marker_sent this_round since any messages_logged channel_logged since_clear turned
  mark_told p may =
      record {
        round = i.round;
        tag = λ q l. marked_tag s.tag s.progress.logical (turned past) p q may.unmarked (i.tag q l);
        saved = i.saved;
        closed = i.closed;
        sent = i.sent;
        counts = i.counts;
        quiet = λ e. true_is_not_false may.phase e;
      }

  pub marker_told : (c : ℕ) → MaySendMarker s c → Tells (SendMarker c)
  unfolding effect quietly record_sent set_entries with_channel with_progress with_sent deed_by fields_of line_of number
      phase_of saved_in closed_in marker_sent this_round since any messages_logged channel_logged since_clear turned
  marker_told c may =
      record {
        round = i.round;
        tag = i.tag;
        saved = i.saved;
        closed = i.closed;
        sent = raised_flag s.progress.sent (λ d. marker_sent d past) c i.sent;
        counts = i.counts;
        quiet = λ e. true_is_not_false may.phase e;
      }

  pub commit_told : MayCommit s → Tells Commit
  unfolding effect quietly end_round with_round with_progress no_progress next_line deed_by fields_of line_of number
      phase_of saved_in closed_in marker_sent this_round since any messages_logged channel_logged since_clear turned
      turned_by
  commit_told may =
      record {
        round = ap (λ (r : Round). record { line = r.line + 1; phase = Idle }) i.round;
        tag = λ p l. i.tag p l ∙ ap (turned_by (turned past)) (may.processes p l);
        saved = none_saved T;
        closed = refl;
        sent = refl;
        counts = i.counts;
        quiet = λ e. refl;
      }

  pub abort_told : Tells Abort
  unfolding effect quietly end_round with_round with_progress with_tag with_channel no_progress deed_by fields_of
      line_of number phase_of saved_in closed_in marker_sent this_round since any messages_logged channel_logged
      since_clear turned turned_by
  abort_told =
      record {
        round = ap (λ (r : Round). record { line = r.line; phase = Idle }) i.round;
        tag = λ p l. refl;
        saved = none_saved T;
        closed = refl;
        sent = refl;
        counts = i.counts;
        quiet = λ e. refl;
      }

  pub begin_told : MayBegin s → Tells Begin
  unfolding effect deed_by fields_of line_of number phase_of saved_in closed_in marker_sent this_round since any
      messages_logged channel_logged since_clear turned with_counts no_counts no_progress
  begin_told may =
      goes_on (with_counts no_counts s) (turned past) (ap (λ (r : Round). r.line) i.round) i.tag
      (i.quiet (rw (is_idle_lem s.round.phase may.idle))) (none_saved T) refl refl refl 0

  -- the physical checkpoint of an early process is not told of, that of a late one is
  early_unsaved : (p q : ℕ) → is_late T p ≡ false
      → saved_in T q past ≡ (is_late T q && (eqb p q || any (copies q) (this_round past)))
  unfolding saved_in
  early_unsaved p q e = go (indices p q)
    where
      go : Indices p q → saved_in T q past ≡ (is_late T q && (eqb p q || any (copies q) (this_round past)))
      go (same is) = rw (← is, e)
      go (other n) = rw (ne_eqb p q n)

  late_saved : (p q : ℕ) → is_late T p ≡ true
      → (eqb p q || saved_in T q past) ≡ (is_late T q && (eqb p q || any (copies q) (this_round past)))
  unfolding saved_in
  late_saved p q e = go (indices p q)
    where
      go : Indices p q
          → (eqb p q || saved_in T q past) ≡ (is_late T q && (eqb p q || any (copies q) (this_round past)))
      go (same is) = rw (← is, e, eq-eqb p p refl)
      go (other n) = rw (ne_eqb p q n)

  pub physical_told : (p : ℕ) → MayCheckpointPhysically s p → Tells (PhysicalCheckpoint p)
  unfolding effect deed_by fields_of line_of number phase_of saved_in closed_in marker_sent this_round since any
      messages_logged channel_logged since_clear turned after_physical record_saved with_progress with_saved
  physical_told p may = go may.turn
    where
      go : Turn s p → Tells (PhysicalCheckpoint p)
      go (early e next) =
          let none_yet = i.quiet (rw (is_next_lem s.round.phase p next)) in
          rw e
          (goes_on s (turned past) (ap (λ (r : Round). r.line) i.round) i.tag none_yet
          (ap (λ (f : Progress). f.saved) (sym none_yet) ∙ i.saved ∙ fun_ext (λ q. early_unsaved p q e))
          (ap (λ (f : Progress). f.closed) (sym none_yet) ∙ i.closed)
          (ap (λ (f : Progress). f.sent) (sym none_yet) ∙ i.sent)
          i.counts (p + 1))
      go (late e logical marked unsaved) =
          rw e
          (record {
            round = i.round;
            tag = i.tag;
            saved =
                raised_flag s.progress.saved (λ q. saved_in T q past) p i.saved
                ∙ fun_ext (λ q. late_saved p q e);
            closed = i.closed;
            sent = i.sent;
            counts = i.counts;
            quiet = λ n. true_is_not_false logical n;
          })
