-- The round trip of the code: what `read`, `rest` and `write` promise, with the model's two theorems about the
-- definitions.
use Prim.Native.Nat.{ℕ, ◌<◌}
use mathlib.Core.Path.{◌≡◌, refl, ap}
use mathlib.Core.List.{List, [], ◌++◌, append-nil}
use mathlib.Core.Option.{none, some}
use lib.ListN.{length, length-append}
use lib.Seq.{take-append_seam}
use native.Mathlib.Omega.{arith}
use Rattle.model.specs.declared.Record.{Record}
use Rattle.model.specs.Record as model
use Rattle.model.specs.Record.{AreBytes, fields_of, read_record, write_fields, write_record}
use Rattle.model.proofs.RoundTrip.{written_reads_back, read_is_written}
use Rattle.record.specs.declared.Written.{Written}
use Rattle.record.specs.RecordRead.{record_is, record_in, remaining}
use Rattle.record.specs.Written.{holding, bytes_of, written}

counted : (r : Record) → bytes_of (written r) ≡ write_record r
unfolding written holding
counted r = take-append_seam (write_record r) _

-- What `write` answers of r, with any bytes after it, is read as r, with those bytes left. The body fits 32 bits by its
-- type: the promise of `write` itself says this with no bytes after it and no premise.
pub written_reads : {w : Written} (r : Record) (after : List ℕ) → (fields_of r).body < 4294967296 → w ≡ written r
    → read_record (bytes_of w ++ after) ≡ some (r, after)
written_reads r after h e = rw (e, counted r) (written_reads_back r after h)

-- so with none
pub reads_back : (r : Record) (w : Written) → w ≡ written r → (fields_of r).body < 4294967296
    → read_record (bytes_of w) ≡ some (r, [])
reads_back r w e h = rw append-nil at (written_reads {w = w} r [] h e)

module _ (bytes : List ℕ) (r : Record) (h : AreBytes bytes) (reads : record_in (read_record bytes) ≡ record_is r) where
  -- The bytes of a slice that `read` answers r to are those that `write` answers of r, and then those that `rest`
  -- answers.
  pub read_writes : bytes ≡ bytes_of (written r) ++ remaining (read_record bytes) bytes
  unfolding record_in remaining
  read_writes = go (read_record bytes) refl reads
    where
      go : (x : model.Reading Record) → read_record bytes ≡ x → record_in x ≡ record_is r
          → bytes ≡ bytes_of (written r) ++ remaining x bytes
      go none e a = let z : ◌≡◌ {A = ℕ} 0 1 = cc in absurd (omega arith)
      go (some y) e a = rw (counted r) (cc (read_is_written bytes y.0 y.1 h e))

  -- So a loop that goes on with what `rest` answers ends.
  pub read_shortens : length (remaining (read_record bytes) bytes) < length bytes
  unfolding write_record write_fields
  read_shortens =
      let all : bytes ≡ write_record r ++ remaining (read_record bytes) bytes = rw (counted r) at read_writes in
      omega (arith, simp length-append at (ap length all))
