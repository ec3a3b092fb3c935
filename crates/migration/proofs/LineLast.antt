-- The theorem of specs/LineLast: every write but the last goes past cell 0.
use Prim.Native.Nat.{ℕ, ◌+◌, ◌<◌}
use mathlib.Core.Path.{◌≡◌, sym, ap, ◌∙◌}
use mathlib.Core.List.{List, ◌++◌}
use mathlib.Core.Option.{none}
use lib.ListN.{length, take, length-append}
use lib.Seq.{take-append-le}
use native.Mathlib.Omega.{arith}
use Rattle.model.specs.declared.Topology.{Topology}
use Rattle.model.specs.Form.{Form, cell, line_cell, channel_log, slot, process_record, channel_record, physical_cell}
use Rattle.model.specs.Form.{count_cell, logged}
use Rattle.model.specs.Write.{Write, write_all, cell_writes, commit_writes}
use Rattle.model.specs.Recover.{stored_line}
use Rattle.model.proofs.store.Writes.{Each, each_take, each_append, each_concat, kept}
use Rattle.migration.specs.Carry.{finished_word, process_writes, processes_writes, bodies_writes, channels_writes}
use Rattle.migration.specs.Carry.{carry_writes, carry_refusal, carried_or, carry}
use Rattle.migration.specs.LineLast.{LineLast}
use Rattle.migration.proofs.Admitting.{carriable, carried_refusal}
use Rattle.migration.proofs.Left.{cells_spare}
use Rattle.migration.proofs.Recovers.{line_is}

abbrev Past : Write → Type 0
Past w = line_cell ≡ w.cell → ⊥

-- a slot begins after cell 0
module _ (G : Form) (k : ℕ) where
  process_past : (p word : ℕ) → Each Past (process_writes G k p word)
  unfolding physical_cell count_cell process_record slot
  process_past p word = (λ e. omega (arith, e), (λ e. omega (arith, e), tt))

  channel_past : (c : ℕ) (bodies : List ℕ) → Each Past (bodies_writes (count_cell G k (channel_log c)) bodies)
  unfolding count_cell channel_record slot
  channel_past c bodies =
      let at : ℕ = count_cell G k (channel_log c) in
      each_append Past (cell_writes (at + 1) bodies) _
      (cells_spare (at + 1) bodies line_cell (λ b. omega (arith, b.from))) (λ e. omega (arith, e), tt)

module _ (F G : Form) (T : Topology) (source target : List ℕ) where
  abbrev k : ℕ
  k = stored_line source

  -- all writes but the last
  abbrev before : List Write
  before = processes_writes F G T source ++ channels_writes F G T source

  before_past : Each Past before
  unfolding processes_writes channels_writes
  before_past =
      each_append Past (processes_writes F G T source) (channels_writes F G T source)
      (each_concat Past T.processes (λ p. process_writes G k p (finished_word F T source p))
      (λ p l. process_past G k p (finished_word F T source p)))
      (each_concat Past T.channels (λ c. bodies_writes (count_cell G k (channel_log c)) (logged F source k c))
      (λ c l. channel_past G k c (logged F source k c)))

  halfway : (n : ℕ) → n < length (carry_writes F G T source)
      → stored_line (write_all target (take n (carry_writes F G T source))) ≡ stored_line target
  unfolding stored_line carry_writes commit_writes
  halfway n l =
      ap (λ (ws : List Write). cell (write_all target ws) line_cell)
      (take-append-le n before (commit_writes k) (omega (arith, length-append before (commit_writes k))))
      ∙ kept target (take n before) line_cell (each_take Past n before before_past)

  whole : (carry F G T source target).refusal ≡ none → stored_line (carry F G T source target).target ≡ k
  unfolding carry carried_or
  whole e =
      let passed : carry_refusal F G T source (length target) ≡ none = sym (carried_refusal _ _ _) ∙ e in
      rw passed (line_is F G T source target (carriable passed))

pub line_last : LineLast
line_last = record { halfway = halfway; whole = whole }
