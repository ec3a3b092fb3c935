-- What the writes of each step do to what the two slots hold: of a log, its count and its first entries; of a process,
-- its physical checkpoint besides.
use Prim.Native.Nat.{ℕ, ◌+◌, ◌<◌, ◌≤◌}
use mathlib.Core.Path.{◌≡◌, refl, sym, subst}
use mathlib.Core.List.{List, [], ◌∷◌, ◌++◌, Memᴰ}
use lib.ListN.{length, take}
use native.Mathlib.Omega.{arith}
use Rattle.model.specs.declared.Topology.{Topology}
use Rattle.model.specs.declared.Receipt.{Receipt}
use Rattle.model.specs.Layout.{cell, line_cell, physical_cell, Log, message_log, channel_log, places, entry_cells}
use Rattle.model.specs.Layout.{present, count_cell, entry_cell, entries_from, entries_by, entry_for}
use Rattle.model.specs.Write.{Write, write_all, clear_writes, physical_writes, cell_writes, append_writes, log_writes}
use Rattle.model.specs.Write.{commit_writes}
use Rattle.model.specs.Start.{initialize_writes}
use Rattle.model.specs.Form as form
use Rattle.model.proofs.laws.TopologyLaws.{Planned}
use Rattle.model.proofs.store.Writes.{Each, each_take, each_append, each_map, written, kept, zero_into, zeroed}
use Rattle.model.proofs.store.Entries.{entry_ends, Between, entries_same, cells_into, append_counts, appends}
use Rattle.model.proofs.store.Entries.{append_behind, append_lost}
use Rattle.model.proofs.store.Sizes.{Sized}
use Rattle.model.proofs.store.Addresses.{Within, place_at, Upto, Of, upto_more, other_within, line_outside}
use Rattle.model.proofs.store.Addresses.{one_physical, line_in_store, in_store, physical_within, log_within}
use Rattle.model.proofs.store.Addresses.{count_within, entry_inside, one_log, no_log}
use Rattle.model.proofs.store.ZeroWrites.{each_clear, in_clear, initialize_zeros, in_line, in_physical, in_count}

-- a log for line n, read with k entries, is the same in two stores
pub record SameLog (n : ℕ) (log : Log) (k : ℕ) (st st' : List ℕ) : Type 0 where
  pub count : cell st' (count_cell n log) ≡ cell st (count_cell n log)
  pub entries : entries_by st' n log k ≡ entries_by st n log k

-- and so is what a process has there
pub record SameProcess (n p k : ℕ) (st st' : List ℕ) : Type 0 where
  pub physical : cell st' (physical_cell n p) ≡ cell st (physical_cell n p)
  pub log : SameLog n (message_log p) k st st'

-- where the cells that are read of a log with k entries are kept, the log is the same
pub kept_log : (st st' : List ℕ) (n : ℕ) (log : Log) (k : ℕ)
    → ((a : ℕ) → Upto present n log k a → cell st' a ≡ cell st a) → SameLog n log k st st'
unfolding form.entries_by
kept_log st st' n log k h =
    record {
      count = h (count_cell n log) (record { from = omega arith; to = omega arith });
      entries =
          entries_same st st' (entry_cells log) (count_cell n log) k
          (λ a b. h a (record { from = omega (arith, b.from); to = b.to }));
    }

-- all the writes go into the slot for line n
abbrev pub InSlot : ℕ → List Write → Type 0
InSlot n ws = Each (λ w. Within present n w.cell) ws

-- all the writes go into the cells of one log for line n
abbrev pub IntoLog : ℕ → Log → List Write → Type 0
IntoLog n log ws = Each (λ w. Of present n log w.cell) ws

-- an entry has its log's number of cells
entry_length : (log : Log) (r : Receipt) → length (entry_for log r) ≡ entry_cells log
entry_length (message_log p) r = refl
entry_length (channel_log c) r = refl

pub log_into : (n : ℕ) (log : Log) (count : ℕ) (r : Receipt) → count < places log
    → IntoLog n log (log_writes n log count r)
unfolding log_writes append_writes
log_into n log count r l =
    let entry : List ℕ = entry_for log r in
    let first : ℕ = entry_cell (length entry) (count_cell n log) count in
    let hi : ℕ = place_at present n log (places log) in
    let end : first + length entry ≤ hi = rw (entry_length log r)
    (omega (arith, entry_ends (entry_cells log) count (places log) l)) in
    each_append (λ w. Of present n log w.cell) (cell_writes first entry) _
    (each_map (λ w. Between first hi w.cell) (λ w. Of present n log w.cell)
    (λ w b. record { from = omega (arith, b.from); to = b.to }) (cell_writes first entry)
    (cells_into first hi first entry (omega arith) end))
    (omega arith, tt)

-- line 0, physical checkpoints 0, logs empty
pub record Initialized (T : Topology) (st : List ℕ) : Type 0 where
  pub line : cell st line_cell ≡ 0
  pub physical : (p : ℕ) → p < T.processes → cell st (physical_cell 0 p) ≡ 0
  pub counts : (log : Log) → Planned T log → cell st (count_cell 0 log) ≡ 0

module _ (T : Topology) (st : List ℕ) (sized : Sized present T st) where
  -- a slot that is kept, read with any counts within the places
  module _ (n : ℕ) (st' : List ℕ) (h : (a : ℕ) → Within present n a → cell st' a ≡ cell st a) where
    slot_log : (log : Log) → Planned T log → (k : ℕ) → k ≤ places log → SameLog n log k st st'
    slot_log log planned k fits =
        kept_log st st' n log k
        (λ a r. h a (log_within sized n log a planned (upto_more n log k (places log) a fits r)))

    slot_process : (p : ℕ) → p < T.processes → (k : ℕ) → k ≤ places (message_log p) → SameProcess n p k st st'
    slot_process p l k fits =
        record {
          physical = h (physical_cell n p) (physical_within sized n p l);
          log = slot_log (message_log p) l k fits;
        }

  -- each step's writes but commit's go into one slot
  pub clear_in : (n : ℕ) → InSlot n (clear_writes T n)
  clear_in n = each_clear T (λ w. Within present n w.cell) n (count_within sized n)

  pub physical_in : (n p word : ℕ) → p < T.processes → InSlot n (physical_writes n p word)
  unfolding physical_writes
  physical_in n p word l = (physical_within sized n p l, tt)

  pub log_in : (n : ℕ) (log : Log) → Planned T log → (ws : List Write) → IntoLog n log ws → InSlot n ws
  log_in n log planned ws into =
      each_map (λ w. Of present n log w.cell) (λ w. Within present n w.cell)
      (λ w own. log_within sized n log w.cell planned own) ws
      into

  -- the finished slot and the line cell are not touched by writes into the next line's slot, however many are made
  module _ (k : ℕ) (ws : List Write) (into : InSlot (k + 1) ws) (b : ℕ) where
    spared : (a : ℕ) → (Within present (k + 1) a → ⊥) → cell (write_all st (take b ws)) a ≡ cell st a
    spared a outside =
        kept st (take b ws) a
        (each_map (λ w. Within present (k + 1) w.cell) (λ w. a ≡ w.cell → ⊥) (λ w within e. outside (rw e within))
        (take b ws)
        (each_take (λ w. Within present (k + 1) w.cell) b ws into))

    pub spared_log : (log : Log) → Planned T log → (j : ℕ) → j ≤ places log
        → SameLog k log j st (write_all st (take b ws))
    spared_log = slot_log k (write_all st (take b ws)) (λ a within. spared a (other_within present k a within))

    pub spared_process : (p : ℕ) → p < T.processes → (j : ℕ) → j ≤ places (message_log p)
        → SameProcess k p j st (write_all st (take b ws))
    spared_process = slot_process k (write_all st (take b ws)) (λ a within. spared a (other_within present k a within))

    pub spared_line : cell (write_all st (take b ws)) line_cell ≡ cell st line_cell
    spared_line = spared line_cell (line_outside (k + 1))

  -- begin: every planned log is empty
  pub cleared : (n : ℕ) (log : Log) → Planned T log → cell (write_all st (clear_writes T n)) (count_cell n log) ≡ 0
  cleared n log planned =
      zeroed st (clear_writes T n) (count_cell n log) (each_clear T (λ w. w.value ≡ 0) n (λ l planned. refl))
      (in_store sized n (count_cell n log) (count_within sized n log planned)) (in_clear T n log planned)

  -- a physical checkpoint: the word is there, and the others' and all logs are as before
  module _ (n p word : ℕ) (l : p < T.processes) where
    abbrev saved : List ℕ
    saved = write_all st (physical_writes n p word)

    pub physical_written : cell saved (physical_cell n p) ≡ word
    unfolding physical_writes write_all
    physical_written =
        written st (record { cell = physical_cell n p; value = word })
        (in_store sized n (physical_cell n p) (physical_within sized n p l))

    pub physical_log : (log : Log) → Planned T log → (k : ℕ) → k ≤ places log → SameLog n log k st saved
    unfolding physical_writes
    physical_log log planned k fits =
        kept_log st saved n log k
        (λ a r.
        kept st (physical_writes n p word) a
        (λ e. no_log sized n p log l planned (rw (← e) (upto_more n log k (places log) a fits r)), tt))

    pub physical_other : (q : ℕ) → q < T.processes → (p ≡ q → ⊥) → (k : ℕ) → k ≤ places (message_log q)
        → SameProcess n q k st saved
    unfolding physical_writes
    physical_other q m o k fits =
        record {
          physical =
              kept st (physical_writes n p word) (physical_cell n q) (λ e. o (one_physical present n p q (sym e)), tt);
          log = physical_log (message_log q) m k fits;
        }

  -- writes into the cells of one log: the other logs and the physical checkpoints are as before
  module _ (n : ℕ) (log : Log) (planned : Planned T log) (ws : List Write) (into : IntoLog n log ws) where
    aside : (a : ℕ) → (Of present n log a → ⊥) → cell (write_all st ws) a ≡ cell st a
    aside a h =
        kept st ws a
        (each_map (λ w. Of present n log w.cell) (λ w. a ≡ w.cell → ⊥) (λ w own e. h (rw e own)) ws into)

    pub log_other : (other : Log) → Planned T other → (log ≡ other → ⊥) → (k : ℕ) → k ≤ places other
        → SameLog n other k st (write_all st ws)
    log_other other p h k fits =
        kept_log st (write_all st ws) n other k
        (λ a read.
        aside a (λ own. h (one_log sized n log other a planned p own (upto_more n other k (places other) a fits read))))

    pub log_physical : (p : ℕ) → p < T.processes
        → cell (write_all st ws) (physical_cell n p) ≡ cell st (physical_cell n p)
    log_physical p l = aside (physical_cell n p) (no_log sized n p log l planned)

  -- a logged message: its log is one longer
  module _ (n : ℕ) (log : Log) (count : ℕ) (r : Receipt) (planned : Planned T log) (room : count < places log) where
    abbrev at : ℕ
    at = count_cell n log

    abbrev entry : List ℕ
    entry = entry_for log r

    abbrev after : List ℕ
    after = write_all st (log_writes n log count r)

    inside : entry_cell (length entry) at count + length entry ≤ length st
    inside = rw (entry_length log r) (entry_inside sized n log count planned room)

    pub log_counted : cell after at ≡ count + 1
    unfolding log_writes
    log_counted = append_counts st at count entry inside

    pub log_appended : entries_by after n log (count + 1) ≡ entries_by st n log count ++ (entry ∷ [])
    unfolding form.entries_by log_writes
    log_appended =
        subst (λ (w : ℕ). entries_from after w at (count + 1) ≡ entries_from st w at count ++ (entry ∷ []))
        (entry_length log r) (appends st at count entry inside)

    -- what stood in it stands there
    pub log_behind : entries_by after n log count ≡ entries_by st n log count
    unfolding form.entries_by log_writes
    log_behind =
        subst (λ (w : ℕ). entries_from after w at count ≡ entries_from st w at count) (entry_length log r)
        (append_behind st at count entry inside)

    -- power lost before the count is written: the entry that may be there is behind those that are read
    pub log_lost : (b : ℕ) → b < length (log_writes n log count r)
        → SameLog n log count st (write_all st (take b (log_writes n log count r)))
    unfolding log_writes
    log_lost b l =
        kept_log st (write_all st (take b (log_writes n log count r))) n log count
        (λ a read. append_lost st at count entry b l a (rw (entry_length log r) read.to))

  -- commit: the line cell, and no slot
  module _ (n : ℕ) where
    pub committed : cell (write_all st (commit_writes n)) line_cell ≡ n
    unfolding commit_writes write_all
    committed = written st (record { cell = line_cell; value = n }) (line_in_store sized)

    uncommitted : (j a : ℕ) → Within present j a → cell (write_all st (commit_writes n)) a ≡ cell st a
    unfolding commit_writes
    uncommitted j a within = kept st (commit_writes n) a (λ e. line_outside j (subst (Within present j) e within), tt)

    pub committed_log : (j : ℕ) (log : Log) → Planned T log → (k : ℕ) → k ≤ places log
        → SameLog j log k st (write_all st (commit_writes n))
    committed_log j = slot_log j (write_all st (commit_writes n)) (uncommitted j)

    pub committed_process : (j p : ℕ) → p < T.processes → (k : ℕ) → k ≤ places (message_log p)
        → SameProcess j p k st (write_all st (commit_writes n))
    committed_process j = slot_process j (write_all st (commit_writes n)) (uncommitted j)

  -- initialize: line 0, physical checkpoints 0, logs empty
  pub initialized : Initialized T (write_all st (initialize_writes T))
  initialized =
      record {
        line = zeroes line_cell (line_in_store sized) (in_line T);
        physical =
            λ p l. zeroes (physical_cell 0 p) (in_store sized 0 _ (physical_within sized 0 p l)) (in_physical T p l);
        counts = λ log planned.
            zeroes (count_cell 0 log) (in_store sized 0 _ (count_within sized 0 log planned)) (in_count T log planned);
      }
    where
      zeroes : (a : ℕ) → a < length st → Memᴰ (zero_into a) (initialize_writes T)
          → cell (write_all st (initialize_writes T)) a ≡ 0
      zeroes a l m = zeroed st (initialize_writes T) a (initialize_zeros T) l m
