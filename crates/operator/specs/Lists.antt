-- The list of calls that bytes hold, as `head` reads its records.
use Rattle.std.specs.Prelude.{ℕ, ◌+◌, ◌≤◌, ◌≡◌, Bool, cond, List, map, length, take}
use Rattle.std.proofs.Math.Option.{Option, none, some}
use Rattle.model.specs.declared.Record.{Record}
use Rattle.model.specs.Program.{Request, full, Readings, read_all}
use Rattle.model.specs.CallList.{list_limit}
use Rattle.model.specs.Outcome.{refusal_of}
use Rattle.operator.specs.declared.list.ListRead.{ListRead}

-- all that the bytes hold
abbrev pub read_calls : List ℕ → Readings
read_calls bytes = read_all full (length bytes) bytes

-- its calls, and whether the bytes after them aren't one
abbrev pub calls_in : List ℕ → List Record
calls_in bytes = map (λ (r : Request). r.content) (read_calls bytes).requests

abbrev pub broken_off : List ℕ → Bool
broken_off bytes = (read_calls bytes).broken

-- the calls that are held
abbrev pub held : ListRead → List Record
held r = take r.count r.calls

-- the number that the reading ends with, where the bytes break off
abbrev pub end_refusal : Bool → Option ℕ
end_refusal broken = cond broken (some 7) none

-- The bytes' calls; of more than 256 only 257, since a longer list is refused for its length alone. And how they end.
pub record ReadsList (bytes : List ℕ) (r : ListRead) : Type 0 where
  pub end : refusal_of r.end ≡ end_refusal (broken_off bytes)
  pub within : r.count ≤ list_limit + 1
  pub calls : held r ≡ take (list_limit + 1) (calls_in bytes)
