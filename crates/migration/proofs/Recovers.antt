-- A restart by the target's rules of what a carry has written gives what a restart of the source gives by its own.
use Prim.Native.Nat.{ℕ, ◌+◌, ◌<◌, ◌≤◌}
use mathlib.Core.Path.{◌≡◌, refl, sym, ap, fun_ext, ◌∙◌}
use mathlib.Core.Bool.{Bool, true, false, cond}
use mathlib.Core.List.{List, []}
use mathlib.Core.Option.{none, or_else}
use lib.ListN.{length, get_or}
use lib.Dec.{ltb}
use borrow.Author.Tests.{ltb-true, le-leb, le-ltb}
use Rattle.model.specs.declared.Topology.{Topology}
use Rattle.model.specs.Notation.{tabulate}
use Rattle.model.specs.Check.{first_refusal}
use Rattle.model.specs.Topology.{has_process, has_channel, is_late}
use Rattle.model.specs.Channel.{messages}
use Rattle.model.specs.Form.{Form, cell, Log, message_log, channel_log, places, physical_cell, count_cell}
use Rattle.model.specs.Form.{entries_from, entries_by, receipts_by, bodies_by, logged}
use Rattle.model.specs.Write.{write_all}
use Rattle.model.specs.Recover.{stored_line, startup_or, initialize_refusal, count_fits, counts_fit, recover_refusal}
use Rattle.model.specs.Recover.{restored, recovered_word, recovered_channel, recover}
use Rattle.model.proofs.laws.Tests.{and_both}
use Rattle.model.proofs.laws.Lists.{all_of, tabulate_cong}
use Rattle.model.proofs.laws.TopologyLaws.{Planned}
use Rattle.model.proofs.laws.WordLaws.{restore_nothing}
use Rattle.model.proofs.store.Writes.{length_write_all}
use Rattle.model.proofs.store.Readable.{bodies_are}
use Rattle.migration.specs.Carry.{finished_word, processes_writes, channels_writes, carry_writes}
use Rattle.migration.specs.Faithful.{Alike}
use Rattle.migration.proofs.Admitting.{Carriable}
use Rattle.migration.proofs.Copying.{counted, body_at}
use Rattle.migration.proofs.Landing.{line_left, physical_left, message_left, count_left, body_left}

module _ (F G : Form) (T : Topology) (source target : List ℕ) (r : Carriable F G T source target) where
  abbrev k : ℕ
  k = stored_line source

  -- what the carry leaves
  abbrev after : List ℕ
  after = write_all target (carry_writes F G T source)

  abbrev word : ℕ → ℕ
  word p = finished_word F T source p

  abbrev bodies : ℕ → List ℕ
  bodies c = logged F source k c

  -- the source's bodies, by their cells
  abbrev from : ℕ → ℕ
  from c = count_cell F k (channel_log c)

  bodies_length : (c : ℕ) → length (bodies c) ≡ cell source (from c)
  unfolding logged bodies_by entries_by
  bodies_length c = counted source (from c)

  fit : (c : ℕ) → c < T.channels → length (bodies c) ≤ places (channel_log c)
  fit c l = rw (bodies_length c) (r.readable.fits (channel_log c) l)

  pub line_is : stored_line after ≡ k
  unfolding stored_line carry_writes processes_writes channels_writes
  line_is = line_left r.sized k word bodies fit

  physical_is : (p : ℕ) → p < T.processes → cell after (physical_cell G k p) ≡ word p
  unfolding carry_writes processes_writes channels_writes
  physical_is = physical_left r.sized k word bodies fit

  message_is : (p : ℕ) → p < T.processes → cell after (count_cell G k (message_log p)) ≡ 0
  unfolding carry_writes processes_writes channels_writes
  message_is = message_left r.sized k word bodies fit

  count_is : (c : ℕ) → c < T.channels → cell after (count_cell G k (channel_log c)) ≡ length (bodies c)
  unfolding carry_writes processes_writes channels_writes
  count_is = count_left r.sized k word bodies fit

  body_is : (c i : ℕ) → c < T.channels → i < length (bodies c)
      → cell after (count_cell G k (channel_log c) + 1 + i) ≡ get_or (bodies c) i 0
  unfolding carry_writes processes_writes channels_writes
  body_is = body_left r.sized k word bodies fit

  -- so a restart isn't refused
  count_fits_lem : (log : Log) → Planned T log → count_fits G after k log ≡ true
  unfolding count_fits
  count_fits_lem (message_log p) l = rw (message_is p l)
  count_fits_lem (channel_log c) l = rw (count_is c l) (le-leb _ _ (fit c l))

  counts_fit_lem : counts_fit G T after ≡ true
  unfolding counts_fit
  counts_fit_lem =
      rw line_is
      (and_both _ _
      (all_of T.processes (λ p. count_fits G after k (message_log p)) (λ p. count_fits_lem (message_log p)))
      (all_of T.channels (λ c. count_fits G after k (channel_log c)) (λ c. count_fits_lem (channel_log c))))

  accepted : recover_refusal G T after ≡ none
  unfolding recover_refusal initialize_refusal or_else first_refusal
  accepted =
      rw (
        counts_fit_lem,
        length_write_all target (carry_writes F G T source),
        r.topology,
        le-ltb _ _ r.sized.cells,
      )

  -- and gives the words: the logs are empty, and the checkpoints are the words
  word_is : (p : ℕ) → p < T.processes → restored G (is_late T p) after k p ≡ word p
  unfolding restored receipts_by entries_by entries_from tabulate
  word_is p l = rw (message_is p l) (restore_nothing G (is_late T p) _ ∙ physical_is p l)

  words_are : recovered_word G T after ≡ recovered_word F T source
  unfolding recovered_word has_process
  words_are = fun_ext (λ p. go p (ltb p T.processes) refl)
    where
      go : (p : ℕ) (t : Bool) → ltb p T.processes ≡ t
          → cond (ltb p T.processes) (restored G (is_late T p) after (stored_line after) p) 0
          ≡ cond (ltb p T.processes) (word p) 0
      go p true e = rw (e, line_is) (word_is p (ltb-true _ _ e))
      go p false e = rw e

  -- and the channels
  logged_is : (c : ℕ) → c < T.channels → logged G after k c ≡ bodies c
  unfolding logged bodies_by entries_by
  logged_is c l =
      let to : ℕ = count_cell G k (channel_log c) in
      let n : ℕ = cell source (from c) in
      bodies_are after to (cell after to)
      ∙ ap (λ (m : ℕ). tabulate m (λ i. cell after (to + 1 + i))) (count_is c l ∙ bodies_length c)
      ∙ tabulate_cong n _ _ (λ i m. body_is c i l (rw (bodies_length c) m) ∙ body_at source (from c) i m)
      ∙ sym (bodies_are source (from c) n)

  channels_are : recovered_channel G T after ≡ recovered_channel F T source
  unfolding recovered_channel has_channel
  channels_are = fun_ext (λ c. go c (ltb c T.channels) refl)
    where
      go : (c : ℕ) (t : Bool) → ltb c T.channels ≡ t
          → cond (ltb c T.channels) (messages false (logged G after (stored_line after) c)) []
          ≡ cond (ltb c T.channels) (messages false (logged F source k c)) []
      go c true e = rw (e, line_is) (ap (messages false) (logged_is c (ltb-true _ _ e)))
      go c false e = rw e

  pub alike : Alike F G T source after
  unfolding recover startup_or
  alike = record { accepted = rw accepted; state = rw (accepted, r.accepted, line_is, words_are, channels_are) }
