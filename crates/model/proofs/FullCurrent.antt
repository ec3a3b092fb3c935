-- With full current no step is ever cut (FullCurrent of specs/FullCurrent.antt): how many writes each step needs.
use Prim.Native.Nat.{ℕ, suc, ◌+◌, ◌*◌, ◌≤◌}
use mathlib.Core.Path.{◌≡◌, refl, ap, ◌∙◌}
use mathlib.Core.List.{List, [], ◌∷◌}
use lib.ListN.{length, length-append}
use native.Mathlib.Omega.{arith}
use Rattle.model.specs.declared.Entry.{Entry}
use Rattle.model.specs.declared.Receipt.{Receipt}
use Rattle.model.specs.declared.Topology.{Topology}
use Rattle.model.specs.declared.Step.{Step}
use Rattle.model.specs.declared.Step.TheVariants.{Send, Receive, Begin, PhysicalCheckpoint}
use Rattle.model.specs.declared.Step.TheVariants.{LogicalCheckpoint, SendMarker, Commit, Abort}
use Rattle.model.specs.Notation.{tabulate}
use Rattle.model.specs.Topology.{receiver}
use Rattle.model.specs.Channel.{receipt_of}
use Rattle.model.specs.Layout.{Log, message_log, channel_log, entry_cell}
use Rattle.model.specs.Outcome.{refused, cut}
use Rattle.model.specs.Heard.{accepted}
use Rattle.model.specs.State.{GlobalState, LogCounts, count_of}
use Rattle.model.specs.Write.{under_budget, in_full, clear_writes, physical_writes, cell_writes, append_writes}
use Rattle.model.specs.Write.{log_writes, logs_writes, commit_writes}
use Rattle.model.specs.Receive.{receiver_at}
use Rattle.model.specs.Step.{reaction, quietly, next_line, receive, effect, step, answer}
use Rattle.model.specs.FullCurrent.{most_writes, FullCurrent}
use Rattle.model.proofs.laws.Tests.{true_is_not_false}
use Rattle.model.proofs.laws.Lists.{tabulate_length}
use Rattle.model.proofs.laws.TopologyLaws.{SizesFit, accepted_sizes}
use Rattle.model.proofs.laws.SoundLaws.{sound_facts}
use Rattle.model.proofs.laws.ReceiveLaws.{Apart, EachLog, reaction_apart, reaction_logs}
use Rattle.model.proofs.laws.Effects.{effect_accepted}
use Rattle.model.proofs.laws.Calls.{Accepted, Stepped, stopped, passes, step_cases, Powered, lost, lasts}
use Rattle.model.proofs.laws.Calls.{power_cases}

-- a log's entry has two cells at most, and its count is written after them
cells_length : (at : ℕ) (vs : List ℕ) → length (cell_writes at vs) ≡ length vs
unfolding cell_writes
cells_length at [] = refl
cells_length at (v ∷ vs) = ap suc (cells_length (at + 1) vs)

append_length : (at count : ℕ) (entry : List ℕ) → length (append_writes at count entry) ≡ length entry + 1
unfolding append_writes
append_length at count entry =
    length-append (cell_writes (entry_cell (length entry) at count) entry) _
    ∙ ap (◌+ 1) (cells_length (entry_cell (length entry) at count) entry)

log_few : (n : ℕ) (log : Log) (count : ℕ) (r : Receipt) → length (log_writes n log count r) ≤ 3
unfolding log_writes
log_few n (message_log p) count r = rw append_length (omega arith)
log_few n (channel_log c) count r = rw append_length (omega arith)

logs_few : (n : ℕ) (counts : LogCounts) (logs : List Log) (r : Receipt)
    → length (logs_writes n counts logs r) ≤ 3 * length logs
unfolding logs_writes
logs_few n counts [] r = omega arith
logs_few n counts (log ∷ logs) r =
    rw length-append
    (omega (arith, log_few n log (count_of counts log) r, logs_few n counts logs r))

-- a receive needs its receiver's message log and its channel's log, and none of them twice
data OneOf (c r : ℕ) (log : Log) : Type 0 where
  message : log ≡ message_log r → OneOf c r log
  channel : log ≡ channel_log c → OneOf c r log

two_logs : (c r : ℕ) (logs : List Log) → Apart logs → EachLog (OneOf c r) logs → length logs ≤ 2
two_logs c r [] a e = omega arith
two_logs c r (x ∷ []) a e = omega arith
two_logs c r (x ∷ y ∷ []) a e = omega arith
two_logs c r (x ∷ y ∷ z ∷ logs) a e = absurd (go e.0 e.1.0 e.1.1.0)
  where
    go : OneOf c r x → OneOf c r y → OneOf c r z → ⊥
    go (message p) (message q) o = a.0.0 (cc)
    go (channel p) (channel q) o = a.0.0 (cc)
    go (message p) (channel q) (message o) = a.0.1.0 (cc)
    go (channel p) (message q) (channel o) = a.0.1.0 (cc)
    go (message p) (channel q) (channel o) = a.1.0.0 (cc)
    go (channel p) (message q) (message o) = a.1.0.0 (cc)

receive_few : (s : GlobalState) (c : ℕ) (es : List Entry) → length (receive s c es).writes ≤ most_writes
unfolding receive quietly reaction
receive_few s c [] = omega arith
receive_few s c (e ∷ es) =
    let r : ℕ = receiver s.topology c in
    let few : length (reaction s c e).logs ≤ 2 =
    two_logs c r (reaction s c e).logs (reaction_apart s.round.phase c (receiver_at s r) e)
    (reaction_logs (OneOf c r) s.round.phase c (receiver_at s r) e (message refl) (channel refl)) in
    omega (arith, logs_few (next_line s) s.counts (reaction s c e).logs (receipt_of c e))

-- begin clears a count for each process and each channel
clear_few : (T : Topology) (n : ℕ) → SizesFit T.processes T.channels → length (clear_writes T n) ≤ most_writes
unfolding clear_writes
clear_few T n fit =
    rw (length-append (tabulate T.processes _)) (simp tabulate_length (omega arith))

effect_few : (s : GlobalState) (cells : ℕ) (x : Step) → Accepted s cells x → length (effect s x).writes ≤ most_writes
unfolding effect quietly physical_writes commit_writes
effect_few s cells (Send c b) a = omega arith
effect_few s cells (Receive c) a = receive_few s c (s.channel c)
effect_few s cells Begin a =
    clear_few s.topology _ (accepted_sizes s.topology (sound_facts s a.fit).topology)
effect_few s cells (PhysicalCheckpoint p) a = omega arith
effect_few s cells (LogicalCheckpoint p) a = omega arith
effect_few s cells (SendMarker c) a = omega arith
effect_few s cells Commit a = omega arith
effect_few s cells Abort a = omega arith

module _ (s : GlobalState) (cells : ℕ) (x : Step) where
  step_few : length (step s cells x).writes ≤ most_writes
  unfolding quietly
  step_few = go (step_cases s cells x)
    where
      go : Stepped s cells x → length (step s cells x).writes ≤ most_writes
      go (stopped r e) = rw e (omega arith)
      go (passes a e) = rw e (effect_few s cells x a)

  -- without a budget there is no cut
  step_uncut : (step s cells x).outcome ≡ cut → ⊥
  unfolding quietly
  step_uncut o = go (step_cases s cells x)
    where
      go : Stepped s cells x → ⊥
      go (stopped r e) = let z : refused r ≡ cut = rw e at o in let f : ◌≡◌ {A = ℕ} 0 1 = cc in omega arith
      go (passes a e) = true_is_not_false (effect_accepted s x) (ap accepted (rw e at o))

module _ (s : GlobalState) (x : Step) (store : List ℕ) (budget : ℕ) (lasting : most_writes ≤ budget) where
  answer_whole : answer s x store budget ≡ in_full store (step s (length store) x)
  unfolding answer
  answer_whole = go (power_cases budget s store (step s (length store) x))
    where
      go : Powered budget s store (step s (length store) x)
          → under_budget budget s store (step s (length store) x) ≡ in_full store (step s (length store) x)
      go (lost l e) = absurd (omega (arith, step_few s (length store) x))
      go (lasts l e) = e

  answer_uncut : (answer s x store budget).outcome ≡ cut → ⊥
  answer_uncut o = step_uncut s (length store) x (rw answer_whole at o)

pub full_current : FullCurrent
full_current = record { few = step_few; whole = answer_whole; uncut = answer_uncut; full = omega arith }
