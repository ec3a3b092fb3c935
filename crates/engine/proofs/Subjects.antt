-- What a step is about: it is within a sound state's arrays; or the step is refused with 8, where there is no such
-- process or channel.
use Rattle.std.proofs.Common.{◌≡◌, ℕ, ◌<◌, ◌≤◌, Bool, true, false, cond, ltb, sym, refl, ap, ◌∙◌, subst, arith}
use Rattle.std.proofs.Common.{Result, Ok, Err, ltb-false, ltb-true}
use mathlib.Core.Option.{some}
use Rattle.model.specs.declared.State.{State}
use Rattle.model.specs.declared.Refusal.{Refusal}
use Rattle.model.specs.declared.Refusal.TheVariants.{NoSuch, ShortStore, Unsound}
use Rattle.model.specs.declared.Step.{Step}
use Rattle.model.specs.declared.Step.TheVariants.{Send, Receive, Begin, PhysicalCheckpoint}
use Rattle.model.specs.declared.Step.TheVariants.{LogicalCheckpoint, SendMarker, Commit, Abort}
use Rattle.model.specs.Check.{first_refusal}
use Rattle.model.specs.Layout.{store_cells}
use Rattle.model.specs.Topology.{process_limit, channel_limit, sender, receiver, has_process, has_channel}
use Rattle.model.specs.State.{GlobalState, view}
use Rattle.model.specs.Sound.{sound}
use Rattle.model.specs.Step.{step, prior_checks, room_checks, log_checks, own_checks, quietly}
use Rattle.model.specs.Outcome.{refusal_number}
use Rattle.model.specs.Outcome as says
use Rattle.model.proofs.laws.Tests.{Tested, holds, fails, test}
use Rattle.engine.specs.declared.spot.Subject.{Subject}
use Rattle.engine.specs.Spots.{at, no_such, sending, receiving, on_process, subject_of, admission_of, Within}
use Rattle.engine.proofs.Bounds.{sizes_fit, channel_bound, sender_bound, receiver_bound}
use Rattle.engine.proofs.Promises.{unsound, short, missing}
use Rattle.engine.proofs.Turning.{found, found_sending, found_receiving, found_process}

-- no such board or wire: it is refused with 8
lost : (t : Bool) (a b : ℕ) (r : Refusal) → cond t (at a b) no_such ≡ Err r → (t ≡ false) × (NoSuch ≡ r)
lost true a b r e = let z : ◌≡◌ {A = ℕ} 0 1 = cc in absurd (omega arith)
lost false a b r e = (refl, cc)

never : {X : Type 0} (r : Refusal) → at 0 0 ≡ Err r → X
never r e = let z : ◌≡◌ {A = ℕ} 0 1 = cc in absurd (omega arith)

nowhere : (g : GlobalState) (x : Step) (r : Refusal) → subject_of g.topology x ≡ Err r
    → (first_refusal (own_checks g x) ≡ some 8) × (NoSuch ≡ r)
unfolding own_checks prior_checks room_checks log_checks first_refusal
nowhere g (Send c b) r e = let f = lost (has_channel g.topology c) _ _ r e in (rw f.0, f.1)
nowhere g (Receive c) r e = let f = lost (has_channel g.topology c) _ _ r e in (rw f.0, f.1)
nowhere g Begin r e = never r e
nowhere g (PhysicalCheckpoint p) r e = let f = lost (has_process g.topology p) _ _ r e in (rw f.0, f.1)
nowhere g (LogicalCheckpoint p) r e = let f = lost (has_process g.topology p) _ _ r e in (rw f.0, f.1)
nowhere g (SendMarker c) r e = let f = lost (has_channel g.topology c) _ _ r e in (rw f.0, f.1)
nowhere g Commit r e = never r e
nowhere g Abort r e = never r e

-- behind refusals 15, 6 and 8
pub record Admitted (s : State) (x : Step) (cells : ℕ) (l : Subject) : Type 0 where
  pub sound : sound (view s) ≡ true
  pub store : store_cells ≤ cells
  pub subject : subject_of s.topology x ≡ Ok l

-- what an admission says of a step: it is admitted, or the refusal is what the definition has
abbrev pub Admits : State → Step → ℕ → Result Subject Refusal → Type 0
Admits s x cells (Ok l) = Admitted s x cells l
Admits s x cells (Err r) = step (view s) cells x ≡ quietly (says.refused (refusal_number r)) (view s)

found_admits : (s : State) (x : Step) (cells : ℕ) → sound (view s) ≡ true → store_cells ≤ cells
    → (a : Result Subject Refusal) → a ≡ subject_of s.topology x → Admits s x cells a
unfolding view
found_admits s x cells h l (Ok subject) e = record { sound = h; store = l; subject = sym e }
found_admits s x cells h l (Err r) e =
    let n = nowhere (view s) x r (sym e) in
    missing s x cells h l n.0 ∙ ap (λ (q : Refusal). quietly (says.refused (refusal_number q)) (view s)) n.1

pub admits : (s : State) (x : Step) (cells : ℕ) (a : Result Subject Refusal) → a ≡ admission_of s x cells
    → Admits s x cells a
admits s x cells a e = go (test (sound (view s))) (test (ltb cells store_cells))
  where
    go : Tested (sound (view s)) → Tested (ltb cells store_cells) → Admits s x cells a
    go (holds h) (holds l) =
        let q : a ≡ Err ShortStore = e ∙ rw (h, l) in
        subst (Admits s x cells) (sym q) (short s x cells h (ltb-true _ _ l))
    go (holds h) (fails l) = found_admits s x cells h (ltb-false _ _ l) a (e ∙ rw (h, l))
    go (fails h) t =
        let q : a ≡ Err Unsound = e ∙ rw h in subst (Admits s x cells) (sym q) (unsound s x cells h)

-- the subject of a step is within the arrays
module _ (s : State) (h : sound (view s) ≡ true) {c p : ℕ} where
  inside : c < channel_limit → p < process_limit → Within s.topology (record { channel = c; process = p })
  inside l k =
      record { processes = (sizes_fit s h).processes; channels = (sizes_fit s h).channels; channel = l; process = k }

  at_zero : at 0 0 ≡ at c p → Within s.topology (record { channel = c; process = p })
  at_zero e = let f = found true 0 0 c p e in inside (omega (arith, f.channel)) (omega (arith, f.process))

  sends : (n : ℕ) → sending s.topology n ≡ at c p → Within s.topology (record { channel = c; process = p })
  unfolding has_channel sender
  sends n e =
      let f = found_sending s.topology n e in
      let l = ltb-true n s.topology.channels f.holds in
      inside (omega (arith, channel_bound s h n l, f.channel)) (omega (arith, sender_bound s h n l, f.process))

  receives : (n : ℕ) → receiving s.topology n ≡ at c p → Within s.topology (record { channel = c; process = p })
  unfolding has_channel receiver
  receives n e =
      let f = found_receiving s.topology n e in
      let l = ltb-true n s.topology.channels f.holds in
      inside (omega (arith, channel_bound s h n l, f.channel)) (omega (arith, receiver_bound s h n l, f.process))

  alone : (n : ℕ) → on_process s.topology n ≡ at c p → Within s.topology (record { channel = c; process = p })
  unfolding has_process
  alone n e =
      let f = found_process s.topology n e in
      let l = ltb-true n s.topology.processes f.holds in
      inside (omega (arith, f.channel)) (omega (arith, (sizes_fit s h).processes, l, f.process))

  pub within : (x : Step) → subject_of s.topology x ≡ at c p
      → Within s.topology (record { channel = c; process = p })
  within (Send n b) e = sends n e
  within (Receive n) e = receives n e
  within Begin e = at_zero e
  within (PhysicalCheckpoint n) e = alone n e
  within (LogicalCheckpoint n) e = alone n e
  within (SendMarker n) e = sends n e
  within Commit e = at_zero e
  within Abort e = at_zero e
