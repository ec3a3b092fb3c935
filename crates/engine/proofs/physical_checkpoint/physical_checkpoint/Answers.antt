-- `engine::physical_checkpoint::physical_checkpoint` meets its contract: refused where the process may not have it now,
-- else its word is written; after that of an early process the next one's turn or the logical phase comes.
use Rattle.std.proofs.Common.{◌≡◌, ℕ, ◌+◌, ◌<◌, ◌≤◌, Bool, true, false, cond, not, ◌&&◌, List, length, sym}
use Rattle.std.proofs.Common.{refl, ◌∙◌, arith, ltb-true}
use mathlib.Core.Option.{none, some}
use Rattle.model.specs.declared.Phase.{Phase}
use Rattle.model.specs.declared.Phase.TheVariants.{Idle, Physical, Logical}
use Rattle.model.specs.declared.Step.TheVariants.{PhysicalCheckpoint}
use Rattle.model.specs.Notation.{bit_of}
use Rattle.model.specs.Check.{first_refusal}
use Rattle.model.specs.Topology.{has_process, is_late}
use Rattle.model.specs.Phase.{is_idle, is_logical, is_next}
use Rattle.model.specs.State.{GlobalState}
use Rattle.model.specs.Write.{physical_writes}
use Rattle.model.specs.Change.{record_saved, with_progress, with_saved, with_counts}
use Rattle.model.specs.Step.{may_checkpoint_physically, prior_checks, room_checks, log_checks, own_checks, next_line}
use Rattle.model.specs.Step.{physical_from, after_physical, effect}
use Rattle.model.specs.Layout.{present, store_cells, physical_cell}
use Rattle.model.proofs.laws.Tests.{true_is_not_false}
use Rattle.model.proofs.store.Sizes.{Sized}
use Rattle.model.proofs.store.Addresses.{in_store, physical_within}
use Rattle.engine.specs.declared.spot.Spot.{Spot}
use Rattle.engine.specs.Spent.{one_write}
use Rattle.engine.specs.Spots.{Sees, Seen, put_back, may_physically}
use Rattle.engine.specs.Spots as spots
use Rattle.engine.proofs.Views.{same_state}
use Rattle.engine.proofs.Turning.{Found, found, Passes, turns_refused, turns_lost, turns_done, turns_from}
use Rattle.engine.proofs.Turning.{same_result, next_line_lem, seen_sizes, same_flags, same_word, same_tag}
use Rattle.engine.proofs.Turning.{same_channel, same_logical, same_closed, same_sent, same_counts}
use Rattle.engine.proofs.physical_checkpoint.physical_checkpoint.Goals as goal

-- whether the spot's process is late
abbrev late_at : Spot → Bool
late_at s = bit_of s.late s.process

-- a physical checkpoint is in a round under way
busy : (phase : Phase) (p : ℕ) (late a b : Bool) → cond late (is_logical phase && a && b) (is_next phase p) ≡ true
    → is_idle phase ≡ false
busy Idle p true a b e = true_is_not_false e refl
busy Idle p false a b e = true_is_not_false e refl
busy (Physical next) p late a b e = refl
busy Logical p late a b e = refl

-- what the model has for a state seen so
module _ (s : Spot) (g : GlobalState) (v : Sees g (PhysicalCheckpoint s.process) s) where
  here : Found (has_process g.topology s.process) 0 s.process s.channel s.process
  here = found _ _ _ _ _ v.subject

  planned : s.process < s.processes
  unfolding has_process
  planned = rw (← v.processes) (ltb-true _ _ here.holds)

  decided : may_checkpoint_physically g s.process ≡ may_physically s (late_at s)
  unfolding may_checkpoint_physically is_late
  decided = rw (v.late, v.round, v.logical, v.saved)

  checks : first_refusal (own_checks g (PhysicalCheckpoint s.process))
      ≡ cond (not (may_physically s (late_at s))) (some 12) none
  unfolding own_checks prior_checks room_checks log_checks first_refusal
  checks = rw (here.holds, decided)

  next : {late : Bool} → late_at s ≡ late
      → after_physical g s.process ≡ cond late (record_saved s.process g) (physical_from (s.process + 1) g)
  unfolding after_physical is_late
  next e = rw (v.late, e)

  writes : (effect g (PhysicalCheckpoint s.process)).writes
      ≡ one_write (physical_cell (s.round.line + 1) s.process) s.word
  unfolding effect physical_writes next_line
  writes = rw (v.round, v.word)

-- the sizes of the spot's topology and of the store
sized : (s : Spot) (store : List ℕ) → Seen (PhysicalCheckpoint s.process) s → store_cells ≤ length store
    → Sized present (spots.sized s.processes s.channels) store
sized s store seen l =
    let fit = seen_sizes seen in record { processes = fit.processes; channels = fit.channels; cells = l }

within : (s : Spot) → Seen (PhysicalCheckpoint s.process) s → s.process < s.processes
within s seen = planned s seen.state seen.sees

passes : (s : Spot) → may_physically s (late_at s) ≡ true → Passes s (PhysicalCheckpoint s.process)
passes s may g v = checks _ g v ∙ rw may

pub returns-then-not-may : goal.returns-then-not-may
returns-then-not-may c =
    turns_refused _ _ _ _ _ (λ g v. checks _ g v ∙ rw (← c.is_late-late.ensures, ← c.may.ensures, c.if-not-may.true))

pub overflow_add-s : goal.overflow_add-s
overflow_add-s c =
    let s = c.args.s in
    let may : may_physically s (late_at s) ≡ true = cc in
    omega (arith, next_line_lem c.requires.0 (busy s.round.phase s.process (late_at s) _ _ may) (omega arith))

pub put-requires : goal.put-requires
put-requires c =
    let s = c.args.s in
    let fits = sized s _ c.requires.0 c.requires.1 in
    rw c.physical_cell-at.ensures (in_store fits _ _ (physical_within fits _ _ (within s c.requires.0)))

pub returns-then-budget-lt1 : goal.returns-then-budget-lt1
returns-then-budget-lt1 c =
    let s = c.args.s in
    let may : may_physically s (late_at s) ≡ true = cc in
    turns_lost _ _ _ _ (passes s may) _ _ (rw c.physical_cell-at.ensures at c.put.ensures.store) (λ g v. writes _ g v)
    c.if-budget-lt1.true

-- a late process
pub returns-then-late : goal.returns-then-late
unfolding effect put_back record_saved with_progress with_saved
returns-then-late c =
    let s = c.args.s in
    let may : may_physically s (late_at s) ≡ true = cc in
    rw c.new.ensures
    (turns_done _ _ _ _ (passes s may) _ _ (rw c.physical_cell-at.ensures at c.put.ensures.store) _ refl refl
    c.if-budget-lt1.false
    (λ g v. same_result refl
    (next _ g v (sym c.is_late-late.ensures ∙ c.if-late.true)
    ∙ same_state refl v.round (sym (same_word v)) (sym (same_tag v)) (sym (same_channel v))
    (same_flags (sym (same_logical v)) refl (sym (same_closed v)) (sym (same_sent v))) (sym (same_counts v)))
    (writes _ g v)))

pub overflow_add-s-2 : goal.overflow_add-s-2
overflow_add-s-2 c =
    omega (arith, within c.args.s c.requires.0, (sized c.args.s _ c.requires.0 c.requires.1).processes)

-- an early one
pub returns : goal.returns
unfolding effect with_counts
returns c =
    let s = c.args.s in
    let may : may_physically s (late_at s) ≡ true = cc in
    turns_from _ _ _ _ (passes s may) _ _ (rw c.physical_cell-at.ensures at c.put.ensures.store)
    c.physical_from.ensures refl c.if-budget-lt1.false
    (λ g v. same_result refl (next _ g v (sym c.is_late-late.ensures ∙ c.if-late.false)) (writes _ g v))
