-- How a call can go. A step is refused, with the state handed in and no writes, or none of its checks fails and it has
-- its effect (`step_cases`, and back: `accepted_by`). Under a budget, the power is lost within the writes, or it lasts;
-- so an answer has the state handed in, or it is the effect's (`answer_cases`). An initialize or recover is refused as
-- its checks say.
use Prim.Native.Nat.{ℕ, ◌<◌, ◌≤◌}
use mathlib.Core.Path.{◌≡◌, refl}
use mathlib.Core.Bool.{true, false}
use mathlib.Core.List.{List, ◌++◌}
use mathlib.Core.Option.{Option, none, some}
use lib.ListN.{length, take}
use lib.Seq.{take_all}
use lib.Dec.{ltb}
use borrow.Author.Tests.{ltb-true, ltb-false, le-ltb, not-false}
use native.Mathlib.Nat.{min-eq_left, min-eq_right}
use native.Mathlib.Omega.{arith}
use Rattle.model.specs.declared.Topology.{Topology}
use Rattle.model.specs.declared.Step.{Step}
use Rattle.model.specs.Check.{Check, first_refusal}
use Rattle.model.specs.Layout.{store_cells}
use Rattle.model.specs.State.{GlobalState}
use Rattle.model.specs.Sound.{sound}
use Rattle.model.specs.Outcome.{refused, cut}
use Rattle.model.specs.Heard.{accepted}
use Rattle.model.specs.Write.{Result, Answered, under_budget, in_full, write_all}
use Rattle.model.specs.Step.{prior_checks, room_checks, log_checks, own_checks, step_checks, quietly, effect, result_of}
use Rattle.model.specs.Step.{step, answer}
use Rattle.model.specs.Start.{startup_or, initialize_refusal, initialize, recover_refusal, recover}
use Rattle.model.specs.Recover as recovery
use Rattle.model.proofs.laws.Tests.{true_is_not_false, Tested, holds, fails, test}
use Rattle.model.proofs.laws.Passing.{Passed, passed, none_fails, passed_both, Prior, prior}

-- a step that nothing turns down
pub record Accepted (s : GlobalState) (n : ℕ) (x : Step) : Type 0 where
  pub fit : sound s ≡ true
  pub cells : store_cells ≤ n
  pub prior : Prior s x
  pub room : Passed (room_checks s x)
  pub logs : Passed (log_checks s x)

none_stops : (s : GlobalState) (cells : ℕ) (x : Step) → Passed (step_checks s cells x) → Accepted s cells x
unfolding step_checks own_checks
none_stops s cells x (sounds, (long, own)) =
    let (first, rest) = passed_both (prior_checks s x) (room_checks s x ++ log_checks s x) own in
    let (room, logs) = passed_both (room_checks s x) (log_checks s x) rest in
    record {
      fit = not-false (sound s) sounds;
      cells = ltb-false cells store_cells long;
      prior = prior s x first;
      room = room;
      logs = logs;
    }

-- A step's two cases.
pub data Stepped (s : GlobalState) (cells : ℕ) (x : Step) : Type 0 where
  stopped : (r : ℕ) → step s cells x ≡ quietly (refused r) s → Stepped s cells x
  passes : Accepted s cells x → step s cells x ≡ effect s x → Stepped s cells x

pub step_cases : (s : GlobalState) (cells : ℕ) (x : Step) → Stepped s cells x
unfolding result_of step
step_cases s cells x = go (first_refusal (step_checks s cells x)) refl
  where
    go : (o : Option ℕ) → first_refusal (step_checks s cells x) ≡ o → Stepped s cells x
    go none e = passes (none_stops s cells x (passed (step_checks s cells x) e)) (rw e)
    go (some r) e = stopped r (rw e)

-- A budget's two cases.
pub data Powered (budget : ℕ) (s : GlobalState) (store : List ℕ) (r : Result) : Type 0 where
  lost : budget < length r.writes
      → under_budget budget s store r
      ≡ record { outcome = cut; made = budget; state = s; store = write_all store (take budget r.writes) }
      → Powered budget s store r
  lasts : length r.writes ≤ budget
      → under_budget budget s store r ≡ in_full store r → Powered budget s store r

pub power_cases : (budget : ℕ) (s : GlobalState) (store : List ℕ) (r : Result) → Powered budget s store r
unfolding under_budget
power_cases budget s store r = go (test (ltb budget (length r.writes)))
  where
    go : Tested (ltb budget (length r.writes)) → Powered budget s store r
    go (holds e) =
        let l : budget < length r.writes = ltb-true budget (length r.writes) e in
        let k : budget ≤ length r.writes = omega arith in
        lost l (rw (e, min-eq_left k))
    go (fails e) =
        let k : length r.writes ≤ budget = ltb-false budget (length r.writes) e in
        lasts k (rw (e, min-eq_right k, take_all budget r.writes k))

-- the answer of a step that has its effect
abbrev pub answered : GlobalState → Step → List ℕ → Answered
answered s x store = in_full store (effect s x)

-- the converse of the cases: a sound state, a long enough store, no check that fails and power that lasts
pub accepted_by : (s : GlobalState) (x : Step) (store : List ℕ) (budget : ℕ) → sound s ≡ true
    → store_cells ≤ length store → Passed (own_checks s x) → length (effect s x).writes ≤ budget
    → answer s x store budget ≡ answered s x store
unfolding answer step step_checks first_refusal result_of under_budget
accepted_by s x store budget fit cells own power =
    rw (
      fit,
      le-ltb (length store) store_cells cells,
      none_fails (own_checks s x) own,
      le-ltb budget (length (effect s x).writes) power,
      min-eq_right power,
      take_all budget (effect s x).writes power,
    )

-- What a step does under a budget, by these checks: it isn't accepted, and the state is the one handed in, or none of
-- them fails and it has its effect.
abbrev pub by_checks : List Check → GlobalState → Step → List ℕ → ℕ → Answered
by_checks cs s x store budget = under_budget budget s store (result_of (first_refusal cs) s x)

pub data Checking (cs : List Check) (s : GlobalState) (x : Step) (store : List ℕ) (budget : ℕ) : Type 0 where
  leaves : accepted (by_checks cs s x store budget).outcome ≡ false → (by_checks cs s x store budget).state ≡ s
      → Checking cs s x store budget
  does : Passed cs → by_checks cs s x store budget ≡ answered s x store → Checking cs s x store budget

pub check_cases : (cs : List Check) (s : GlobalState) (x : Step) (store : List ℕ) (budget : ℕ)
    → Checking cs s x store budget
unfolding result_of quietly
check_cases cs s x store budget = go (first_refusal cs) refl
  where
    refuses : (r : ℕ) → first_refusal cs ≡ some r → Powered budget s store (quietly (refused r) s)
        → Checking cs s x store budget
    refuses r e (lost l q) = leaves (rw (e, q)) (rw (e, q))
    refuses r e (lasts l q) = leaves (rw (e, q)) (rw (e, q))

    powered : first_refusal cs ≡ none → Powered budget s store (effect s x) → Checking cs s x store budget
    powered e (lost l q) = leaves (rw (e, q)) (rw (e, q))
    powered e (lasts l q) = does (passed cs e) (rw (e, q))

    go : (o : Option ℕ) → first_refusal cs ≡ o → Checking cs s x store budget
    go none e = powered e (power_cases budget s store (effect s x))
    go (some r) e = refuses r e (power_cases budget s store (quietly (refused r) s))

-- a step's answer, by the step's own checks
pub data Answering (s : GlobalState) (x : Step) (store : List ℕ) (budget : ℕ) : Type 0 where
  unheard : accepted (answer s x store budget).outcome ≡ false → (answer s x store budget).state ≡ s
      → Answering s x store budget
  answers : Accepted s (length store) x → answer s x store budget ≡ answered s x store → Answering s x store budget

pub answer_cases : (s : GlobalState) (x : Step) (store : List ℕ) (budget : ℕ) → Answering s x store budget
unfolding answer step
answer_cases s x store budget = go (check_cases (step_checks s (length store) x) s x store budget)
  where
    go : Checking (step_checks s (length store) x) s x store budget → Answering s x store budget
    go (leaves o e) = unheard o e
    go (does p e) = answers (none_stops s (length store) x p) e

-- an accepted call was turned down by nothing, and its power lasted
pub accepted_passes : (s : GlobalState) (x : Step) (store : List ℕ) (budget : ℕ)
    → accepted (answer s x store budget).outcome ≡ true
    → Accepted s (length store) x × (answer s x store budget ≡ answered s x store)
accepted_passes s x store budget ok = go (answer_cases s x store budget)
  where
    go : Answering s x store budget → Accepted s (length store) x × (answer s x store budget ≡ answered s x store)
    go (unheard o e) = true_is_not_false ok o
    go (answers a e) = (a, e)

-- what an initialize or a recover is refused with is what its checks say; and where it is refused, the store is left
refusal_is : (o : Option ℕ) (s : GlobalState) (after before : List ℕ) → (startup_or o s after before).refusal ≡ o
unfolding startup_or
refusal_is none s after before = refl
refusal_is (some n) s after before = refl

pub initialize_refusal_lem : (T : Topology) (store : List ℕ)
    → (initialize T store).refusal ≡ initialize_refusal T (length store)
unfolding initialize
initialize_refusal_lem T store = refusal_is (initialize_refusal T (length store)) _ _ _

pub recover_refusal_lem : (T : Topology) (store : List ℕ) → (recover T store).refusal ≡ recover_refusal T store
unfolding recovery.recover
recover_refusal_lem T store = refusal_is (recover_refusal T store) _ _ _

pub refused_leaves : (T : Topology) (store : List ℕ) {n : ℕ} → initialize_refusal T (length store) ≡ some n
    → (initialize T store).store ≡ store
unfolding initialize startup_or
refused_leaves T store e = rw e
