-- The writes of begin and of initialize: runs of cells, one in each record of a process and one in each of a channel.
use Rattle.std.proofs.Common.{◌≡◌, ℕ, zero, suc, ◌+◌, ◌*◌, ◌≤◌, List, [], ◌∷◌, length, refl, ap, ◌∙◌, ap₂, arith}
use Rattle.std.proofs.Common.{length-append}
use Rattle.model.specs.declared.Topology.{Topology}
use Rattle.model.specs.Notation.{tabulate, concat_below}
use Rattle.model.specs.Layout.{present, line_cell, process_cells, channel_cells, physical_cell}
use Rattle.model.specs.Layout.{message_log, channel_log, count_cell}
use Rattle.model.specs.Write.{write_all, clear_writes, commit_writes}
use Rattle.model.specs.Start.{initialize_writes}
use Rattle.model.specs.Form as form
use Rattle.model.proofs.laws.Lists.{tabulate_length, tabulate_cong}
use Rattle.model.proofs.store.Addresses.{message_cell, channel_cell}
use Rattle.engine.specs.Spent.{Spent, zero_write, clear_process}
use Rattle.engine.proofs.Stores.{spent_then, all_spent}

-- 0 into the counts of m logs, from the first one's on: of message logs, and of channel logs
module _ {st st' : List ℕ} {b b' : ℕ} (n m : ℕ) {first : ℕ} where
  pub messages_cleared : first ≡ count_cell n (message_log 0)
      → Spent st b (tabulate m (λ i. zero_write (first + process_cells * i))) st' b'
      → Spent st b (tabulate m (λ i. zero_write (count_cell n (message_log i)))) st' b'
  messages_cleared e p =
      rw (tabulate_cong m (λ i. zero_write (first + process_cells * i)) (λ i. zero_write (count_cell n (message_log i)))
      (λ i l. ap zero_write (rw e (message_cell present n i)))) at p

  pub channels_cleared : first ≡ count_cell n (channel_log 0)
      → Spent st b (tabulate m (λ i. zero_write (first + channel_cells * i))) st' b'
      → Spent st b (tabulate m (λ i. zero_write (count_cell n (channel_log i)))) st' b'
  channels_cleared e p =
      rw (tabulate_cong m (λ i. zero_write (first + channel_cells * i)) (λ i. zero_write (count_cell n (channel_log i)))
      (λ i l. ap zero_write (rw e (channel_cell present n i)))) at p

pub clear_length : (T : Topology) (n : ℕ) → length (clear_writes T n) ≡ T.processes + T.channels
unfolding clear_writes
clear_length T n = length-append (tabulate T.processes _) (tabulate T.channels _) ∙ simp tabulate_length

-- how a run of two zeros writes what initialize does for a process
pub two_zeros : (p at : ℕ) → at ≡ physical_cell 0 p → tabulate 2 (λ i. zero_write (at + 1 * i)) ≡ clear_process p
unfolding tabulate form.physical_cell form.count_cell
two_zeros p at e =
    let first : at + 1 * 0 ≡ form.process_record present 0 p = omega arith in
    let second : at + 1 * 1 ≡ form.process_record present 0 p + 1 = omega arith in
    ap₂ (λ (a b : ℕ). zero_write a ∷ zero_write b ∷ []) first second

-- how many writes initialize needs
processes_length : (n : ℕ) → length (concat_below n clear_process) ≡ 2 * n
unfolding concat_below
processes_length zero = refl
processes_length (suc n) =
    length-append (concat_below n clear_process) (clear_process n) ∙ rw (processes_length n) (omega arith)

initialize_length : (T : Topology) → length (initialize_writes T) ≡ 2 * T.processes + T.channels + 1
unfolding initialize_writes commit_writes
initialize_length T = simp (length-append, processes_length, tabulate_length)

-- a budget that lasts for them: all of them are made, those for the channels by a run of zeros
module _ (T : Topology) {st st₁ st₂ st₃ : List ℕ} {b left rest last first : ℕ}
    (at : first ≡ count_cell 0 (channel_log 0))
    (processes : Spent st b (concat_below T.processes clear_process) st₁ left)
    (channels : Spent st₁ left (tabulate T.channels (λ i. zero_write (first + channel_cells * i))) st₂ rest)
    (line : Spent st₂ rest (zero_write line_cell ∷ []) st₃ last) where
  whole : Spent st b (initialize_writes T) st₃ last
  unfolding initialize_writes commit_writes
  whole = spent_then (spent_then processes (channels_cleared 0 T.channels at channels)) line

  pub all_cleared : 2 * T.processes + T.channels + 1 ≤ b → st₃ ≡ write_all st (initialize_writes T)
  all_cleared l = all_spent whole (omega (arith, initialize_length T))
