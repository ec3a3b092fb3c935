-- Records round-trip, as a statement: what the writer writes is read back, and what is read is what the writer writes.
-- The theorem is proofs/RoundTrip.antt.
use Rattle.std.specs.Prelude.{ℕ, ◌<◌, ◌≡◌, List, ◌++◌}
use Rattle.std.proofs.Math.Option.{some}
use Rattle.model.specs.declared.Record.{Record}
use Rattle.model.specs.Record.{fields_of, AreBytes, write_record, read_record}

pub record RoundTrip : Type 0 where
  -- a record with any bytes after it, whatever its body of 32 bits
  pub written : (r : Record) (rest : List ℕ) → (fields_of r).body < 4294967296
      → read_record (write_record r ++ rest) ≡ some (r, rest)
  -- bytes that read: so each record has one spelling
  pub read : (bytes : List ℕ) (r : Record) (rest : List ℕ) → AreBytes bytes → read_record bytes ≡ some (r, rest)
      → bytes ≡ write_record r ++ rest
