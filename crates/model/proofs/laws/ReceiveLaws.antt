-- Laws of the logs that an entry goes into: each is its receiver's message log or its channel's log, none comes twice,
-- and which message goes into the message log.
use Prim.Native.Nat.{ℕ}
use mathlib.Core.Path.{◌≡◌, refl}
use mathlib.Core.Bool.{Bool, true, false, not, ◌&&◌, ◌||◌, beq}
use mathlib.Core.List.{List, [], ◌∷◌, ◌++◌}
use lib.Dec.{ltb}
use native.Mathlib.Omega.{arith}
use Rattle.model.specs.declared.Phase.{Phase}
use Rattle.model.specs.declared.Phase.TheVariants.{Idle, Physical, Logical}
use Rattle.model.specs.declared.Receiver.{Receiver}
use Rattle.model.specs.declared.Entry.{Entry}
use Rattle.model.specs.declared.Entry.TheVariants.{Message, Marker}
use Rattle.model.specs.Layout.{Log, message_log, channel_log}
use Rattle.model.specs.Receive.{logs_only, log_if, in_message_log, reaction_to}
use Rattle.model.proofs.laws.Tests.{either}

-- with a receiver that has its logical checkpoint, or gets it by this message: where it is late and has no physical
-- checkpoint; with one that has none: where it isn't late
pub marked_logs : (late saved : Bool) → in_message_log late true saved ≡ (late && not saved)
unfolding in_message_log
marked_logs true saved = refl
marked_logs false saved = refl

pub unmarked_logs : (late saved : Bool) → in_message_log late false saved ≡ not late
unfolding in_message_log
unmarked_logs true saved = refl
unmarked_logs false saved = refl

-- logs of which none comes twice
abbrev pub Unlike : Log → List Log → Type 0
Unlike log [] = Unit {0}
Unlike log (other ∷ logs) = (log ≡ other → ⊥) × Unlike log logs

abbrev pub Apart : List Log → Type 0
Apart [] = Unit {0}
Apart (log ∷ logs) = Unlike log logs × Apart logs

both_apart : (a b : Bool) (c r : ℕ) → Apart (log_if a (channel_log c) ++ log_if b (message_log r))
both_apart true true c r = ((λ e. let z : ◌≡◌ {A = ℕ} 0 1 = cc in omega arith, tt), (tt, tt))
both_apart true false c r = (tt, tt)
both_apart false true c r = (tt, tt)
both_apart false false c r = tt

pub reaction_apart : (phase : Phase) (c : ℕ) (r : Receiver) (e : Entry) → Apart (reaction_to phase c r e).logs
unfolding reaction_to logs_only
reaction_apart Idle c r e = tt
reaction_apart (Physical next) c r (Message b t) =
    either Apart (ltb r.process next && not r.late) _ _ (tt, tt) tt
reaction_apart (Physical next) c r Marker = tt
reaction_apart Logical c r (Message b t) =
    let differs : Bool = not (beq t r.tag) in
    both_apart (r.logical && differs) (in_message_log r.late (r.logical || differs) r.saved) c r.process
reaction_apart Logical c r Marker = tt

-- each log that an entry needs is its receiver's message log or its channel's log
abbrev pub EachLog : (Log → Type 0) → List Log → Type 0
EachLog P [] = Unit {0}
EachLog P (log ∷ logs) = P log × EachLog P logs

both_logs : (P : Log → Type 0) (a b : Bool) (c r : ℕ) → P (message_log r) → P (channel_log c)
    → EachLog P (log_if a (channel_log c) ++ log_if b (message_log r))
both_logs P true true c r m k = (k, (m, tt))
both_logs P true false c r m k = (k, tt)
both_logs P false true c r m k = (m, tt)
both_logs P false false c r m k = tt

pub reaction_logs : (P : Log → Type 0) (ph : Phase) (c : ℕ) (r : Receiver) (e : Entry) → P (message_log r.process)
    → P (channel_log c) → EachLog P (reaction_to ph c r e).logs
unfolding reaction_to logs_only
reaction_logs P Idle c r e m k = tt
reaction_logs P (Physical next) c r (Message b t) m k =
    either (EachLog P) (ltb r.process next && not r.late) _ _ (m, tt) tt
reaction_logs P (Physical next) c r Marker m k = tt
reaction_logs P Logical c r (Message b t) m k =
    let differs : Bool = not (beq t r.tag) in
    both_logs P (r.logical && differs) (in_message_log r.late (r.logical || differs) r.saved) c r.process m k
reaction_logs P Logical c r Marker m k = tt
