-- Every planned log of a store that isn't refused is.
use Rattle.std.proofs.Common.{◌≡◌, ℕ, ◌+◌, ◌*◌, ◌<◌, ◌≤◌, Bool, true, false, List, length, refl, ◌∙◌}
use Rattle.std.proofs.Common.{arith, lt-ltb, le-leb}
use mathlib.Core.Option.{none}
use Rattle.model.specs.declared.Topology.{Topology}
use Rattle.model.specs.declared.Entry.{Entry}
use Rattle.model.specs.Topology.{process_limit, channel_limit, is_late}
use Rattle.model.specs.Channel.{messages}
use Rattle.model.specs.Form.{Form, Log, message_log, channel_log, cell, places, entry_cells, count_cell, logged}
use Rattle.model.specs.Recover.{stored_line, recover_refusal, restored}
use Rattle.model.proofs.laws.Tests.{and_both}
use Rattle.model.proofs.laws.TopologyLaws.{Planned}
use Rattle.model.proofs.store.Sizes.{Sized}
use Rattle.model.proofs.store.Addresses.{in_store, log_within}
use Rattle.model.proofs.store.Readable.{readable}
use Rattle.reading.specs.Source.{possible, whole, word_read, channel_read}

-- the cell of its count, and that of its last place
abbrev count : Form → List ℕ → Log → ℕ
count F st log = count_cell F (stored_line st) log

abbrev last : Form → List ℕ → Log → ℕ
last F st log = count F st log + entry_cells F log * places log

module _ (F : Form) (st : List ℕ) (log : Log) where
  pub within : possible log ≡ true → last F st log < length st → cell st (count F st log) ≤ places log
      → whole F st log ≡ true
  unfolding whole
  within so h l =
      and_both _ _ so
      (and_both _ _ (lt-ltb (last F st log) (length st) h) (le-leb (cell st (count F st log)) (places log) l))

-- a planned log is a possible one
planned_possible : {F : Form} {T : Topology} {st : List ℕ} → Sized F T st → (log : Log) → Planned T log
    → possible log ≡ true
planned_possible z (message_log p) l = lt-ltb p process_limit (omega (arith, l, z.processes))
planned_possible z (channel_log c) l = lt-ltb c channel_limit (omega (arith, l, z.channels))

pub planned_whole : (F : Form) (T : Topology) (st : List ℕ) → recover_refusal F T st ≡ none → (log : Log)
    → Planned T log → whole F st log ≡ true
planned_whole F T st e log planned =
    let r = readable F T st e in
    within F st log (planned_possible r.sized log planned)
    (in_store r.sized (stored_line st) _
    (log_within r.sized (stored_line st) log _ planned (record { from = omega arith; to = omega arith })))
    (r.fits log planned)

-- so that what is read of a planned process or channel is what a restart gives it
module _ (F : Form) (T : Topology) (st : List ℕ) (e : recover_refusal F T st ≡ none) where
  pub word_given : (p : ℕ) → p < T.processes → {late : Bool} → late ≡ is_late T p → {r : ℕ} → r ≡ word_read F late st p
      → r ≡ restored F (is_late T p) st (stored_line st) p
  word_given p l told is = is ∙ rw (planned_whole F T st e (message_log p) l, told) refl

  pub channel_given : (c : ℕ) → c < T.channels → {es : List Entry} → es ≡ channel_read F st c
      → es ≡ messages false (logged F st (stored_line st) c)
  channel_given c l is = is ∙ rw (planned_whole F T st e (channel_log c) l) refl
