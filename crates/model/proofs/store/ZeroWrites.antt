-- The writes of begin and of initialize: all of them are of a 0, and these are the cells that they go to.
use Prim.Native.Nat.{ℕ, ◌<◌}
use mathlib.Core.Path.{◌≡◌, refl}
use mathlib.Core.List.Memᴰ
use mathlib.Core.List.{List, [], ◌∷◌, ◌++◌, Memᴰ}
use Rattle.model.specs.declared.Topology.{Topology}
use Rattle.model.specs.Notation.{tabulate, concat_below}
use Rattle.model.specs.Layout.{line_cell, physical_cell, Log, message_log, channel_log, count_cell}
use Rattle.model.specs.Write.{Write, clear_writes, commit_writes}
use Rattle.model.specs.Start.{initialize_writes}
use Rattle.model.proofs.store.Writes.{Each, each_append, each_concat, each_tabulate, in_concat, in_tabulate}
use Rattle.model.proofs.store.Writes.{zero_into, Zeros}
use Rattle.model.proofs.laws.TopologyLaws.{Planned}

-- the lists' parts
abbrev clear_message : ℕ → ℕ → Write
clear_message n p = zero_into (count_cell n (message_log p))

abbrev clear_channel : ℕ → ℕ → Write
clear_channel n c = zero_into (count_cell n (channel_log c))

abbrev clear_process : ℕ → List Write
clear_process p = zero_into (physical_cell 0 p) ∷ clear_message 0 p ∷ []

-- begin's writes, each of which is one of a log's count, and there is one for every planned log
pub each_clear : (T : Topology) (P : Write → Type 0) (n : ℕ)
    → ((log : Log) → Planned T log → P (zero_into (count_cell n log))) → Each P (clear_writes T n)
unfolding clear_writes
each_clear T P n h =
    each_append P (tabulate T.processes (clear_message n)) (tabulate T.channels (clear_channel n))
    (each_tabulate P T.processes (clear_message n) (λ p. h (message_log p)))
    (each_tabulate P T.channels (clear_channel n) (λ c. h (channel_log c)))

pub in_clear : (T : Topology) (n : ℕ) (log : Log) → Planned T log
    → Memᴰ (zero_into (count_cell n log)) (clear_writes T n)
unfolding clear_writes
in_clear T n (message_log p) l =
    Memᴰ.append_left (tabulate T.channels (clear_channel n)) (in_tabulate T.processes (clear_message n) p l)
in_clear T n (channel_log c) l =
    Memᴰ.append_right (tabulate T.processes (clear_message n)) (in_tabulate T.channels (clear_channel n) c l)

-- initialize's writes
module _ (T : Topology) where
  abbrev processes : List Write
  processes = concat_below T.processes clear_process

  abbrev channels : List Write
  channels = tabulate T.channels (clear_channel 0)

  pub initialize_zeros : Zeros (initialize_writes T)
  unfolding initialize_writes commit_writes
  initialize_zeros =
      each_append (λ w. w.value ≡ 0) (processes ++ channels) (commit_writes 0)
      (each_append (λ w. w.value ≡ 0) processes channels
      (each_concat (λ w. w.value ≡ 0) T.processes clear_process (λ p l. (refl, (refl, tt))))
      (each_tabulate (λ w. w.value ≡ 0) T.channels (clear_channel 0) (λ c l. refl)))
      (refl, tt)

  pub in_line : Memᴰ (zero_into line_cell) (initialize_writes T)
  unfolding initialize_writes commit_writes
  in_line = Memᴰ.append_right (processes ++ channels) (Memᴰ.head refl)

  in_process : (p : ℕ) → p < T.processes → (w : Write) → Memᴰ w (clear_process p)
      → Memᴰ w (initialize_writes T)
  unfolding initialize_writes
  in_process p l w m =
      Memᴰ.append_left (commit_writes 0) (Memᴰ.append_left channels (in_concat T.processes clear_process p l w m))

  pub in_physical : (p : ℕ) → p < T.processes → Memᴰ (zero_into (physical_cell 0 p)) (initialize_writes T)
  in_physical p l = in_process p l (zero_into (physical_cell 0 p)) (Memᴰ.head refl)

  pub in_count : (log : Log) → Planned T log → Memᴰ (zero_into (count_cell 0 log)) (initialize_writes T)
  unfolding initialize_writes
  in_count (message_log p) l = in_process p l (clear_message 0 p) (Memᴰ.tail (Memᴰ.head refl))
  in_count (channel_log c) l =
      Memᴰ.append_left (commit_writes 0) (Memᴰ.append_right processes (in_tabulate T.channels (clear_channel 0) c l))
