-- `engine::physical_checkpoint::physical_from` meets its contract, of every state seen so at the spot.
use Rattle.std.proofs.Common.{◌≡◌, ℕ, Bool, cond, sym, refl, ap, ◌∙◌, ap₂}
use mathlib.Core.Option.{Option, none, some}
use Rattle.model.specs.declared.Phase.{Phase}
use Rattle.model.specs.declared.Round.{Round}
use Rattle.model.specs.Topology.{first_early}
use Rattle.model.specs.Phase.{is_logical}
use Rattle.model.specs.State.{GlobalState, Progress, no_progress, no_counts}
use Rattle.model.specs.Change.{in_phase, with_round, with_progress, with_counts}
use Rattle.model.specs.Step.{physical_at, physical_from}
use Rattle.rules.specs.Late.{phase_at, phase_from}
use Rattle.engine.specs.Spots.{put_back}
use Rattle.engine.proofs.Views.{same_state}
use Rattle.engine.proofs.Turning.{same_word, same_tag, same_channel, same_progress, same_counts}
use Rattle.engine.proofs.physical_checkpoint.physical_from.Goals as goal

-- the round is in this phase, and the logical one starts with no progress
abbrev entering : Phase → GlobalState → GlobalState
entering phase g = in_phase phase (with_progress (cond (is_logical phase) no_progress g.progress) g)

at_phase : (o : Option ℕ) (g : GlobalState) → physical_at o g ≡ entering (phase_at o) g
unfolding physical_at phase_at in_phase with_round with_progress
at_phase (some p) g = refl
at_phase none g = refl

goes_on : (from : ℕ) (g : GlobalState) {n late : ℕ} → g.topology.processes ≡ n → g.topology.late ≡ late
    → {phase : Phase} → phase ≡ phase_from n late from → physical_from from g ≡ entering phase g
unfolding physical_from
goes_on from g {n} {late} a b e =
    ap₂ (λ (i j : ℕ). physical_at (first_early i j from) g) a b ∙ at_phase (first_early n late from) g
    ∙ ap (λ (phase : Phase). entering phase g) (sym e)

pub returns : goal.returns
unfolding in_phase with_round with_progress with_counts put_back
returns c =
    let a = c.args in
    let next : Phase = c.phase_from-next.result in
    record {
      outcome = refl;
      made = refl;
      state =
          λ x g v. goes_on a.from (with_counts (cond a.counts no_counts g.counts) g) v.processes v.late
          c.phase_from-next.ensures
          ∙ same_state refl (ap (λ (r : Round). record { line = r.line; phase = next }) v.round) (sym (same_word v))
          (sym (same_tag v)) (sym (same_channel v))
          (ap₂ (λ (b : Bool) (y : Progress). cond b no_progress y) (sym c.is_logical.ensures)
          (sym (same_progress v)))
          (ap (cond a.counts no_counts) (sym (same_counts v)));
    }
