-- `engine::commit::commit` meets its contract: refused where the round is not through, else the next line's number is
-- written and the round ends.
use Rattle.std.proofs.Common.{◌≡◌, ◌+◌, Bool, true, false, cond, not, ◌&&◌, sym, refl, ◌∙◌, arith}
use mathlib.Core.Option.{none, some}
use Rattle.model.specs.declared.Phase.{Phase}
use Rattle.model.specs.declared.Phase.TheVariants.{Idle, Physical, Logical}
use Rattle.model.specs.declared.Step.TheVariants.{Commit}
use Rattle.model.specs.Check.{first_refusal}
use Rattle.model.specs.Layout.{line_cell}
use Rattle.model.specs.Phase.{is_idle, is_logical}
use Rattle.model.specs.State.{GlobalState}
use Rattle.model.specs.Change.{end_round, with_round, with_progress}
use Rattle.model.specs.Write.{commit_writes}
use Rattle.model.specs.Step.{may_commit, prior_checks, room_checks, log_checks, own_checks, effect, next_line}
use Rattle.model.proofs.laws.Tests.{and_left, true_is_not_false}
use Rattle.engine.specs.declared.spot.Spot.{Spot}
use Rattle.engine.specs.Spent.{one_write}
use Rattle.engine.specs.Spots.{Sees, put_back}
use Rattle.engine.proofs.Views.{same_state}
use Rattle.engine.proofs.Turning.{Passes, turns_refused, turns_lost, turns_done, same_result, next_line_lem}
use Rattle.engine.proofs.Turning.{same_word, same_tag, same_channel, same_counts}
use Rattle.engine.proofs.commit.commit.Goals as goal

and_assoc : (a b c : Bool) → ((a && b) && c) ≡ (a && (b && c))
and_assoc true b c = refl
and_assoc false b c = refl

abbrev may : Spot → Bool
may s = is_logical s.round.phase && s.through

-- the logical phase is part of a round under way
busy : (phase : Phase) → is_logical phase ≡ true → is_idle phase ≡ false
busy Idle e = true_is_not_false e refl
busy (Physical next) e = refl
busy Logical e = refl

-- what the model has for a state seen so
module _ (s : Spot) (g : GlobalState) (v : Sees g Commit s) where
  decided : may_commit g ≡ may s
  unfolding may_commit
  decided = and_assoc (is_logical g.round.phase) _ _ ∙ rw (v.through, v.round)

  checks : first_refusal (own_checks g Commit) ≡ cond (not (may s)) (some 12) none
  unfolding own_checks prior_checks room_checks log_checks first_refusal
  checks = rw decided

  writes : (effect g Commit).writes ≡ one_write line_cell (s.round.line + 1)
  unfolding effect commit_writes next_line
  writes = rw v.round

pub returns-then-not-may : goal.returns-then-not-may
returns-then-not-may c =
    turns_refused _ _ _ _ _ (λ g v. checks _ g v ∙ rw (← c.is_logical.ensures, c.if-not-may.true))

-- the round is through
passes : (s : Spot) → may s ≡ true → Passes s Commit
passes s e g v = checks s g v ∙ rw e

pub overflow_add-line : goal.overflow_add-line
overflow_add-line c =
    let through : may c.args.s ≡ true = rw (← c.is_logical.ensures) c.if-not-may.false in
    let under_way = busy c.args.s.round.phase (and_left _ c.args.s.through through) in
    omega (arith, next_line_lem c.requires.0 under_way (omega arith))

pub returns-then-budget-lt1 : goal.returns-then-budget-lt1
returns-then-budget-lt1 c =
    turns_lost _ _ _ _ (passes c.args.s (rw (← c.is_logical.ensures) c.if-not-may.false)) _ _ c.put.ensures.store
    (writes _) c.if-budget-lt1.true

pub returns : goal.returns
unfolding effect commit_writes next_line end_round with_round with_progress put_back
returns c =
    turns_done _ _ _ _ (passes c.args.s (rw (← c.is_logical.ensures) c.if-not-may.false)) _ _ c.put.ensures.store _ refl
    refl c.if-budget-lt1.false
    (λ g v. rw v.round
    (same_result refl
    (same_state refl refl (sym (same_word v)) (sym (same_tag v)) (sym (same_channel v)) refl (sym (same_counts v)))
    refl))
