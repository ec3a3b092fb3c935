-- Document 02, M-102: what a source of form F, carried into a target of form G, leaves there. "The source is only read
-- and the target is another slice."
use Rattle.std.specs.Prelude.{ℕ, ◌+◌, List, [], ◌∷◌, ◌++◌, length, ltb}
use Rattle.std.proofs.Math.Option.{Option, none, some, or_else}
use Rattle.model.specs.declared.Topology.{Topology}
use Rattle.model.specs.Notation.{concat_below}
use Rattle.model.specs.Check.{◌gives◌, first_refusal}
use Rattle.model.specs.Topology.{is_late}
use Rattle.model.specs.Form.{Form, message_log, channel_log, store_cells, physical_cell, count_cell, logged}
use Rattle.model.specs.Write.{Write, write_all, cell_writes, commit_writes}
use Rattle.model.specs.Recover.{stored_line, recover_refusal, restored}

-- the word of process p at the source's line, by the source's form: anti-messages of a late one are undone
abbrev pub finished_word : Form → Topology → List ℕ → ℕ → ℕ
finished_word F T source p = restored F (is_late T p) source (stored_line source) p

-- "The finished line's words become copies with empty board logs"
abbrev pub process_writes : Form → ℕ → ℕ → ℕ → List Write
process_writes G n p word =
    record { cell = physical_cell G n p; value = word }
    ∷ record { cell = count_cell G n (message_log p); value = 0 } ∷ []

unfoldable pub processes_writes : Form → Form → Topology → List ℕ → List Write
processes_writes F G T source =
    concat_below T.processes (λ p. process_writes G (stored_line source) p (finished_word F T source p))

-- a whole log, whose count stands in the cell `at`: its bodies, then their count
abbrev pub bodies_writes : ℕ → List ℕ → List Write
bodies_writes at bodies = cell_writes (at + 1) bodies ++ (record { cell = at; value = length bodies } ∷ [])

-- "wire logs are carried as they are"
unfoldable pub channels_writes : Form → Form → Topology → List ℕ → List Write
channels_writes F G T source =
    let k : ℕ = stored_line source in
    concat_below T.channels (λ c. bodies_writes (count_cell G k (channel_log c)) (logged F source k c))

-- "Written are each planned board's copy and count, each planned wire's logged bodies and count, and cell 0; no other
-- cell changes." Line k is kept, so all of it goes into the target's half for line k. "cell 0 is stored last"
unfoldable pub carry_writes : Form → Form → Topology → List ℕ → List Write
carry_writes F G T source =
    processes_writes F G T source ++ channels_writes F G T source ++ commit_writes (stored_line source)

-- "Refusals 1 to 6 and 16 apply to the source, then 6 to the target.", which has so many cells; and 19, "after 5"
unfoldable pub carry_refusal : Form → Form → Topology → List ℕ → ℕ → Option ℕ
carry_refusal F G T source cells =
    or_else (recover_refusal F T source) (first_refusal ((ltb cells (store_cells G) gives 6) ∷ []))

-- the number that it is refused with, if it is, and what the target then holds
pub record Carried : Type 0 where
  pub refusal : Option ℕ
  pub target : List ℕ

-- a refusal touches no cell
unfoldable pub carried_or : Option ℕ → List ℕ → List ℕ → Carried
carried_or none after before = record { refusal = none; target = after }
carried_or (some n) after before = record { refusal = some n; target = before }

unfoldable pub carry : Form → Form → Topology → List ℕ → List ℕ → Carried
carry F G T source target =
    carried_or (carry_refusal F G T source (length target)) (write_all target (carry_writes F G T source)) target
