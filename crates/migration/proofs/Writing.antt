-- Lists of writes made one after the other: those of the first i records.
use Prim.Native.Nat.{ℕ, ◌+◌, ◌<◌, ◌≤◌}
use mathlib.Core.Path.{◌≡◌, refl, sym, ap, ◌∙◌}
use mathlib.Core.List.{List}
use lib.ListN.{length}
use native.Mathlib.Omega.{arith}
use Rattle.model.specs.declared.Topology.{Topology}
use Rattle.model.specs.Notation.{concat_below}
use Rattle.model.specs.Form.{Form, channel_log, count_cell, logged}
use Rattle.model.specs.Recover.{stored_line}
use Rattle.model.specs.Write.{Write, write_all}
use Rattle.model.proofs.laws.Lists.{concat_more}
use Rattle.model.proofs.store.Writes.{length_write_all, write_all_append}
use Rattle.migration.specs.Carry.{finished_word, process_writes, bodies_writes}

-- the writes for a process and for a channel
abbrev pub writes_process : Form → Form → Topology → List ℕ → ℕ → List Write
writes_process F G T source p = process_writes G (stored_line source) p (finished_word F T source p)

abbrev pub writes_channel : Form → Form → List ℕ → ℕ → List Write
writes_channel F G source c =
    let k : ℕ = stored_line source in bodies_writes (count_cell G k (channel_log c)) (logged F source k c)

-- of the n lists of f the first i
pub record Wrote (before : List ℕ) (f : ℕ → List Write) (n : ℕ) (after : List ℕ) (i : ℕ) : Type 0 where
  pub within : i ≤ n
  pub records : after ≡ write_all before (concat_below i f)

pub none_wrote : {before : List ℕ} {f : ℕ → List Write} {n : ℕ} → Wrote before f n before 0
unfolding concat_below write_all
none_wrote = record { within = omega arith; records = refl }

module _ {before : List ℕ} {f : ℕ → List Write} {n : ℕ} {after : List ℕ} {i : ℕ} (w : Wrote before f n after i) where
  pub one_wrote : {next : List ℕ} → i < n → next ≡ write_all after (f i) → Wrote before f n next (i + 1)
  one_wrote l e =
      record {
        within = omega arith;
        records =
            e
            ∙ ap (λ (st : List ℕ). write_all st (f i)) w.records
            ∙ sym (write_all_append before (concat_below i f) (f i))
            ∙ ap (write_all before) (sym (concat_more i f));
      }

  pub all_wrote : n ≤ i → after ≡ write_all before (concat_below n f)
  all_wrote l = let all : i ≡ n = omega (arith, w.within) in w.records ∙ rw all

  pub wrote_length : length after ≡ length before
  wrote_length = rw w.records (length_write_all before _)
