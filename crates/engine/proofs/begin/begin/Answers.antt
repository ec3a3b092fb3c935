-- `engine::begin::begin` meets its contract: refused where no round may begin, else the logs' counts are cleared and
-- the physical phase starts.
use Rattle.std.proofs.Common.{◌≡◌, ◌+◌, true, false, length, sym, refl, ◌∙◌, eq-eqb, ne_eqb}
use mathlib.Core.Option.{none, some}
use Rattle.model.specs.declared.Step.TheVariants.{Begin}
use Rattle.model.specs.Check.{first_refusal}
use Rattle.model.specs.Phase.{is_idle}
use Rattle.model.specs.State.{GlobalState}
use Rattle.model.specs.Sound.{last_line}
use Rattle.model.specs.Write.{clear_writes}
use Rattle.model.specs.Step.{prior_checks, room_checks, log_checks, own_checks, next_line, effect}
use Rattle.engine.specs.declared.spot.Spot.{Spot}
use Rattle.engine.specs.Spots.{Sees, sized}
use Rattle.engine.proofs.Clearing.{clear_length}
use Rattle.engine.proofs.Turning.{turns_refused, turns_lost, turns_from, same_result, seen_sizes}
use Rattle.engine.proofs.begin.begin.Goals as goal

-- what the model has for a state seen so
module _ (s : Spot) (g : GlobalState) (v : Sees g Begin s) where
  not_now_lem : is_idle s.round.phase ≡ false → first_refusal (own_checks g Begin) ≡ some 12
  unfolding own_checks prior_checks room_checks log_checks first_refusal
  not_now_lem e = rw (v.round, e)

  module _ (e : is_idle s.round.phase ≡ true) where
    last_line_lem : s.round.line ≡ last_line → first_refusal (own_checks g Begin) ≡ some 13
    unfolding own_checks prior_checks room_checks log_checks first_refusal
    last_line_lem l = rw (v.round, e, eq-eqb s.round.line last_line l)

    passed : (s.round.line ≡ last_line → ⊥) → first_refusal (own_checks g Begin) ≡ none
    unfolding own_checks prior_checks room_checks log_checks first_refusal
    passed l = rw (v.round, e, ne_eqb s.round.line last_line l)

  writes : (effect g Begin).writes ≡ clear_writes (sized s.processes s.channels) (s.round.line + 1)
  unfolding effect next_line clear_writes
  writes = rw (v.round, v.processes, v.channels)

pub returns-then-not-is_idle : goal.returns-then-not-is_idle
returns-then-not-is_idle c =
    turns_refused _ _ _ _ _ (λ g v. not_now_lem _ g v (sym c.is_idle.ensures ∙ c.if-not-is_idle.true))

pub returns-then-s-eq-LAST_LINE : goal.returns-then-s-eq-LAST_LINE
returns-then-s-eq-LAST_LINE c =
    turns_refused _ _ _ _ _
    (λ g v. last_line_lem _ g v (sym c.is_idle.ensures ∙ c.if-not-is_idle.false) c.if-s-eq-LAST_LINE.true)

pub clear-requires : goal.clear-requires
clear-requires c = let fit = seen_sizes c.requires.0 in (fit.processes, fit.channels, c.requires.1)

many : (s : Spot) → length (clear_writes (sized s.processes s.channels) (s.round.line + 1)) ≡ s.processes + s.channels
many s = clear_length (sized s.processes s.channels) (s.round.line + 1)

pub returns-then-budget-writes : goal.returns-then-budget-writes
returns-then-budget-writes c =
    let s = c.args.s in
    turns_lost _ _ _ _
    (λ g v. passed s g v (sym c.is_idle.ensures ∙ c.if-not-is_idle.false) c.if-s-eq-LAST_LINE.false) _ _
    c.clear.ensures.store (writes s) (rw (many s) c.if-budget-writes.true)

pub returns : goal.returns
unfolding effect
returns c =
    let s = c.args.s in
    turns_from _ _ _ _
    (λ g v. passed s g v (sym c.is_idle.ensures ∙ c.if-not-is_idle.false) c.if-s-eq-LAST_LINE.false) _ _
    c.clear.ensures.store c.physical_from.ensures (sym (many s)) (rw (many s) c.if-budget-writes.false)
    (λ g v. same_result refl refl (writes s g v))
