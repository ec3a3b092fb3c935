-- What a store that a restart by its form's rules doesn't refuse has: its cells, and every log of its line within its
-- places. The counts are tested by runs from the first of each kind.
use Prim.Native.Nat.{ℕ, ◌+◌, ◌*◌, ◌<◌, ◌≤◌}
use mathlib.Core.Path.{◌≡◌, refl, ap, ◌∙◌}
use mathlib.Core.Bool.{Bool, true, false, not, ◌&&◌}
use mathlib.Core.List.{List, [], ◌∷◌, map}
use mathlib.Core.Option.{none}
use lib.ListN.{length}
use lib.Dec.{leb, ltb}
use borrow.Author.Tests.{leb-true, lt-ltb, not-false}
use native.Mathlib.Omega.{arith}
use Rattle.model.specs.declared.Topology.{Topology}
use Rattle.model.specs.Notation.{tabulate, all_below}
use Rattle.model.specs.Check.{Check, ◌gives◌, first_refusal}
use Rattle.model.specs.Topology.{topology_refusal}
use Rattle.model.specs.Form.{Form, cell, Log, message_log, channel_log, message_places, channel_places, places}
use Rattle.model.specs.Form.{channel_entry_cells, channel_cells, entry_cell, cells_from, entries_from}
use Rattle.model.specs.Form.{body_in, entry_cells, process_cells, count_cell}
use Rattle.model.specs.Recover.{initialize_refusal, recover_refusal, stored_line, count_fits, counts_fit}
use Rattle.model.proofs.laws.Tests.{and_left, and_right}
use Rattle.model.proofs.laws.Lists.{all_at, all_cong, or_else_none, tabulate_cong, map_tabulate}
use Rattle.model.proofs.laws.Passing.{passed}
use Rattle.model.proofs.laws.TopologyLaws.{Planned}
use Rattle.model.proofs.store.Sizes.{Sized, admitted, sized_start}
use Rattle.model.proofs.store.Addresses.{Upto, upto_more, message_cell, channel_cell, in_store, log_within}
use Rattle.model.proofs.store.Addresses.{count_within}

pub record Readable (F : Form) (T : Topology) (st : List ℕ) : Type 0 where
  pub sized : Sized F T st
  pub fits : (log : Log) → Planned T log → cell st (count_cell F (stored_line st) log) ≤ places log

-- its topology is accepted
pub readable_topology : (F : Form) (T : Topology) (st : List ℕ) → recover_refusal F T st ≡ none
    → topology_refusal T ≡ none
unfolding recover_refusal
readable_topology F T st e =
    (admitted F T (length st) (or_else_none (initialize_refusal F T (length st)) _ e).0).0

pub readable : (F : Form) (T : Topology) (st : List ℕ) → recover_refusal F T st ≡ none → Readable F T st
unfolding recover_refusal counts_fit count_fits
readable F T st e = record { sized = sized_start F T st both.0; fits = fits }
  where
    check : List Check
    check = (not (counts_fit F T st) gives 16) ∷ []

    both : (initialize_refusal F T (length st) ≡ none) × (first_refusal check ≡ none)
    both = or_else_none (initialize_refusal F T (length st)) (first_refusal check) e

    fit : counts_fit F T st ≡ true
    fit = not-false (counts_fit F T st) (passed check both.1).0

    fits : (log : Log) → Planned T log → cell st (count_cell F (stored_line st) log) ≤ places log
    fits (message_log p) l = leb-true _ _ (all_at T.processes _ (and_left _ _ fit) p l)
    fits (channel_log c) l = leb-true _ _ (all_at T.channels _ (and_right (all_below T.processes _) _ fit) c l)

-- the first n of the cells f are in the store and hold at most the limit
abbrev holding : List ℕ → ℕ → (ℕ → ℕ) → ℕ → Bool
holding st n f limit = all_below n (λ i. ltb (f i) (length st) && leb (cell st (f i)) limit)

-- the first n logs of a kind are tested so, by the cells of their counts
all_held : (F : Form) (st : List ℕ) (k n : ℕ) (log : ℕ → Log) (f : ℕ → ℕ) (limit : ℕ)
    → ((i : ℕ) → i < n → f i ≡ count_cell F k (log i)) → ((i : ℕ) → i < n → count_cell F k (log i) < length st)
    → ((i : ℕ) → places (log i) ≡ limit) → holding st n f limit ≡ all_below n (λ i. count_fits F st k (log i))
unfolding count_fits
all_held F st k n log f limit at inside places-are =
    all_cong n _ _ (λ i l. rw (at i l, lt-ltb _ _ (inside i l), places-are i))

-- The test of the line's counts, by runs from the first of each kind: a message log that is over decides, else the
-- channel logs do.
module _ {F : Form} {T : Topology} {st : List ℕ} (sized : Sized F T st) where
  abbrev k : ℕ
  k = stored_line st

  inside : (log : Log) → Planned T log → count_cell F k log < length st
  inside log planned = in_store sized k (count_cell F k log) (count_within sized k log planned)

  module _ {first : ℕ} (at : first ≡ count_cell F k (message_log 0)) {fit : Bool}
      (tested : fit ≡ holding st T.processes (λ p. first + process_cells F * p) message_places) where
    messages_tested : fit ≡ all_below T.processes (λ p. count_fits F st k (message_log p))
    messages_tested =
        tested
        ∙ all_held F st k T.processes message_log _ message_places (λ p l. rw at (message_cell F k p))
        (λ p. inside (message_log p)) (λ p. refl)

    pub messages_over : fit ≡ false → false ≡ counts_fit F T st
    unfolding counts_fit
    messages_over e = rw (← messages_tested, e)

    pub messages_fit : fit ≡ true → {channels : ℕ} → channels ≡ count_cell F k (channel_log 0) → {rest : Bool}
        → rest ≡ holding st T.channels (λ c. channels + channel_cells * c) channel_places → rest ≡ counts_fit F T st
    unfolding counts_fit
    messages_fit e start q =
        rw (← messages_tested, e)
        (q
        ∙ all_held F st k T.channels channel_log _ channel_places (λ c l. rw start (channel_cell F k c))
        (λ c. inside (channel_log c)) (λ c. refl))

-- the last cell of a log's last entry, too, is in the store
pub last_in_store : {F : Form} {T : Topology} {st : List ℕ} → Readable F T st → (log : Log) → Planned T log
    → count_cell F (stored_line st) log + entry_cells F log * cell st (count_cell F (stored_line st) log) < length st
last_in_store {F} {T} {st} r log planned =
    let k : ℕ = stored_line st in
    let count : ℕ = cell st (count_cell F k log) in
    let a : ℕ = count_cell F k log + entry_cells F log * count in
    let upto : Upto F k log count a = omega arith in
    in_store r.sized k a
    (log_within r.sized k log a planned (upto_more k log count (places log) a (r.fits log planned) upto))

-- the first k bodies of a log whose count stands in the cell `at`
pub bodies_are : (st : List ℕ) (at k : ℕ)
    → map body_in (entries_from st channel_entry_cells at k) ≡ tabulate k (λ i. cell st (at + 1 + i))
unfolding entries_from cells_from
bodies_are st at k =
    map_tabulate body_in k (λ i. cells_from st channel_entry_cells (entry_cell channel_entry_cells at i))
    ∙ tabulate_cong k _ _ (λ i l. ap (cell st) (omega arith))
