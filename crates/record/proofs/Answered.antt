-- What the answer of the reader says of the reading.
use Prim.Native.Nat.{ℕ}
use mathlib.Core.Path.{◌≡◌, refl}
use mathlib.Core.List.{List}
use mathlib.Core.Option.{none, some}
use Rattle.model.specs.declared.Record.{Record}
use Rattle.model.specs.Record.{Reading}
use Rattle.record.specs.RecordRead.{record_is, refuses, record_in, remaining}

-- nothing was read
pub no_record : (x : Reading Record) {n : ℕ} → record_in x ≡ refuses n → x ≡ none
unfolding record_in
no_record none e = refl
no_record (some r) e = cc

-- this was read, and what remains comes after it
pub a_record : (bytes : List ℕ) (x : Reading Record) {r : Record} → record_in x ≡ record_is r
    → x ≡ some (r, remaining x bytes)
unfolding record_in remaining
a_record bytes none e = cc
a_record bytes (some (a, rest)) e = cc
