-- What the writes of a carry leave in the target's cells: each process's word and an empty log, each channel's log, and
-- the line. Of any form G of the target, any words, and any bodies that a channel log has places for.
use Prim.Native.Nat.{ℕ, ◌+◌, ◌*◌, ◌<◌, ◌≤◌}
use mathlib.Core.Path.{◌≡◌, ap, subst}
use mathlib.Core.List.{List, [], ◌∷◌, ◌++◌}
use lib.ListN.{length, get_or}
use native.Mathlib.Omega.{arith}
use Rattle.model.specs.declared.Topology.{Topology}
use Rattle.model.specs.Notation.{concat_below}
use Rattle.model.specs.Form.{Form, cell, line_cell, Log, message_log, channel_log, channel_places}
use Rattle.model.specs.Form.{physical_cell, count_cell}
use Rattle.model.specs.Write.{Write, write_all, cell_writes, commit_writes}
use Rattle.model.proofs.laws.TopologyLaws.{Planned}
use Rattle.model.proofs.store.Writes.{Each, each_append, each_map, each_concat}
use Rattle.model.proofs.store.Entries.{Between, cells_into}
use Rattle.model.proofs.store.Sizes.{Sized}
use Rattle.model.proofs.store.Addresses.{Within, Of, line_outside, one_physical, physical_within, log_within, one_log}
use Rattle.model.proofs.store.Addresses.{no_log, line_in_store, in_store, count_within}
use Rattle.migration.specs.Carry.{process_writes, bodies_writes}
use Rattle.migration.proofs.Left.{LeavesIn, Spares, leaves_one, leaves_first, leaves_last, leaves_concat}
use Rattle.migration.proofs.Left.{cells_leave}

-- logs told apart by a number
abbrev owner : Log → ℕ
owner (message_log p) = 2 * p
owner (channel_log c) = 2 * c + 1

module _ {G : Form} {T : Topology} {target : List ℕ} (sized : Sized G T target) (k : ℕ) (word : ℕ → ℕ)
    (bodies : ℕ → List ℕ) (fit : (c : ℕ) → c < T.channels → length (bodies c) ≤ channel_places) where
  abbrev process : ℕ → List Write
  process p = process_writes G k p (word p)

  abbrev channel : ℕ → List Write
  channel c = bodies_writes (count_cell G k (channel_log c)) (bodies c)

  abbrev pub processes : List Write
  processes = concat_below T.processes process

  abbrev pub channels : List Write
  channels = concat_below T.channels channel

  -- a log's count is one of its cells
  counts : (log : Log) → Of G k log (count_cell G k log)
  counts log = record { from = omega arith; to = omega arith }

  -- a channel's writes go into its log
  channel_into : (c : ℕ) → c < T.channels → Each (λ w. Of G k (channel_log c) w.cell) (channel c)
  channel_into c l =
      let at : ℕ = count_cell G k (channel_log c) in
      let hi : ℕ = at + 1 + length (bodies c) in
      each_append (λ w. Of G k (channel_log c) w.cell) (cell_writes (at + 1) (bodies c)) _
      (each_map (λ w. Between (at + 1) hi w.cell) (λ w. Of G k (channel_log c) w.cell)
      (λ w b. record { from = omega (arith, b.from); to = omega (arith, b.to, fit c l) })
      (cell_writes (at + 1) (bodies c))
      (cells_into (at + 1) hi (at + 1) (bodies c) (omega arith) (omega arith)))
      (counts (channel_log c), tt)

  -- a physical checkpoint's cell is spared by the other processes and by all channels
  physical_spared : (p q : ℕ) → p < T.processes → q < T.processes → (p ≡ q → ⊥)
      → Spares (process q) (physical_cell G k p)
  physical_spared p q l m h =
      (λ e. h (one_physical G k p q e), (λ e. no_log sized k p (message_log q) l m (rw e (counts (message_log q))), tt))

  channels_spare_physical : (p : ℕ) → p < T.processes → Spares channels (physical_cell G k p)
  channels_spare_physical p l =
      each_concat (λ w. physical_cell G k p ≡ w.cell → ⊥) T.channels channel
      (λ c m.
      each_map (λ w. Of G k (channel_log c) w.cell) (λ w. physical_cell G k p ≡ w.cell → ⊥)
      (λ w own e. no_log sized k p (channel_log c) l m (rw e own)) (channel c)
      (channel_into c m))

  -- a log's cells are spared by the processes and channels whose log is another
  process_spares : (q : ℕ) (log : Log) (a : ℕ) → q < T.processes → Planned T log → Of G k log a
      → (message_log q ≡ log → ⊥) → Spares (process q) a
  process_spares q log a l planned own h = (
    λ e. no_log sized k q log l planned (rw (← e) own),
    (λ e. h (one_log sized k (message_log q) log a l planned (rw e (counts (message_log q))) own), tt),
  )

  channel_spares : (d : ℕ) (log : Log) (a : ℕ) → d < T.channels → Planned T log → Of G k log a
      → (channel_log d ≡ log → ⊥) → Spares (channel d) a
  channel_spares d log a l planned own h =
      each_map (λ w. Of G k (channel_log d) w.cell) (λ w. a ≡ w.cell → ⊥)
      (λ w in-d e. h (one_log sized k (channel_log d) log a l planned (rw e in-d) own)) (channel d)
      (channel_into d l)

  -- the target after all that a carry writes: the line is written last, and elsewhere
  abbrev pub after : List ℕ
  after = write_all target (processes ++ channels ++ commit_writes k)

  left : {a v : ℕ} → Within G k a → LeavesIn (processes ++ channels) a v → cell after a ≡ v
  unfolding commit_writes
  left {a} within h =
      (leaves_first h (commit_writes k) (λ e. line_outside k (subst (Within G k) e within), tt)).holds target
      (in_store sized k a within)

  pub line_left : cell after line_cell ≡ k
  unfolding commit_writes
  line_left =
      (leaves_last (processes ++ channels) (leaves_one (record { cell = line_cell; value = k }))).holds target
      (line_in_store sized)

  pub physical_left : (p : ℕ) → p < T.processes → cell after (physical_cell G k p) ≡ word p
  physical_left p l =
      let a : ℕ = physical_cell G k p in
      let count : Write = record { cell = count_cell G k (message_log p); value = 0 } in
      left (physical_within sized k p l)
      (leaves_first
      (leaves_concat T.processes process p a (word p) l
      (leaves_first (leaves_one (record { cell = a; value = word p })) (count ∷ [])
      (λ e. no_log sized k p (message_log p) l l (rw e (counts (message_log p))), tt))
      (λ q m h. physical_spared p q l m h)) channels
      (channels_spare_physical p l))

  pub message_left : (p : ℕ) → p < T.processes → cell after (count_cell G k (message_log p)) ≡ 0
  message_left p l =
      let log : Log = message_log p in
      let a : ℕ = count_cell G k log in
      let physical : Write = record { cell = physical_cell G k p; value = word p } in
      left (count_within sized k log l)
      (leaves_first
      (leaves_concat T.processes process p a 0 l
      (leaves_last (physical ∷ []) (leaves_one (record { cell = a; value = 0 })))
      (λ q m h. process_spares q log a m l (counts log) (λ e. h (omega (arith, ap owner e))))) channels
      (each_concat (λ w. a ≡ w.cell → ⊥) T.channels channel
      (λ c m. channel_spares c log a m l (counts log) (λ e. omega (arith, ap owner e)))))

  -- a cell of a channel's log is as that channel's writes leave it
  channel_left : (c : ℕ) → c < T.channels → (a v : ℕ) → Of G k (channel_log c) a → LeavesIn (channel c) a v
      → cell after a ≡ v
  channel_left c l a v own h =
      left (log_within sized k (channel_log c) a l own)
      (leaves_last processes
      (leaves_concat T.channels channel c a v l h
      (λ d m o. channel_spares d (channel_log c) a m l own (λ e. o (omega (arith, ap owner e))))))

  pub count_left : (c : ℕ) → c < T.channels → cell after (count_cell G k (channel_log c)) ≡ length (bodies c)
  count_left c l =
      let at : ℕ = count_cell G k (channel_log c) in
      channel_left c l at (length (bodies c)) (counts (channel_log c))
      (leaves_last (cell_writes (at + 1) (bodies c)) (leaves_one (record { cell = at; value = length (bodies c) })))

  pub body_left : (c i : ℕ) → c < T.channels → i < length (bodies c)
      → cell after (count_cell G k (channel_log c) + 1 + i) ≡ get_or (bodies c) i 0
  body_left c i l m =
      let at : ℕ = count_cell G k (channel_log c) in
      channel_left c l (at + 1 + i) (get_or (bodies c) i 0)
      (record { from = omega arith; to = omega (arith, fit c l) })
      (leaves_first (cells_leave (at + 1) (bodies c) i m) (record { cell = at; value = length (bodies c) } ∷ [])
      (λ e. omega (arith, e), tt))
