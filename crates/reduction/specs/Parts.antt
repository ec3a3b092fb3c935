-- A part of a list as the code holds it.
use Rattle.std.specs.Prelude.{ℕ, ◌+◌, ◌-◌, ◌≤◌, ◌≡◌, cond, List, ◌++◌, length, take, drop, replicate, ltb}
use Rattle.model.specs.CallList.{list_limit}
use Rattle.reduction.specs.declared.part.Part.{Part}

-- the places that a part holds, as many as its count says
abbrev pub kept : Part → List ℕ
kept part = take part.count part.places

-- an array that begins with these numbers, with 0 in the places after them
abbrev pub padded : List ℕ → List ℕ
padded xs = xs ++ replicate (list_limit - length xs) 0

-- a part of these places
unfoldable pub part_of : List ℕ → Part
part_of places = record { places = padded places; count = length places }

-- a part that holds no more places than there are, and 0 in those after them
pub record Held (part : Part) : Type 0 where
  pub within : part.count ≤ list_limit
  pub whole : part ≡ part_of (kept part)

-- without those at from to before to
abbrev pub without_block : ℕ → ℕ → List ℕ → List ℕ
without_block from to places = take from places ++ drop to places

-- where the i-th of them is found, with a gap of so many that begins at from
abbrev pub past : ℕ → ℕ → ℕ → ℕ
past from gap i = cond (ltb i from) i (i + gap)
