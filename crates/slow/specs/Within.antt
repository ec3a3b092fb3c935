-- What the histories keep, over their arrays: the ghost fields of `Histories` cite it, so it can't name that struct.
use Rattle.std.specs.Prelude.{ℕ, ◌≤◌, ◌<◌, ◌≡◌, List, [], get_or, length}
use Rattle.std.specs.declared.option.Option as code
use Rattle.std.specs.declared.option.Option.TheVariants.{None, Some}

-- every process has a place for each deed
abbrev pub Rows : List (List ℕ) → Type 0
Rows entries = (p : ℕ) → p < 16 → length (get_or entries p []) ≡ 256

-- every history has room
abbrev pub Few : List ℕ → Type 0
Few counts = (p : ℕ) → get_or counts p 0 ≤ 256

-- its place in the line is within it
abbrev pub LinesWithin : List ℕ → List ℕ → Type 0
LinesWithin lines counts = (p : ℕ) → get_or lines p 0 ≤ get_or counts p 0

-- and so is its mark
abbrev pub MarksWithin : List (code.Option ℕ) → List ℕ → Type 0
MarksWithin marks counts = (p m : ℕ) → get_or marks p None ≡ Some m → m ≤ get_or counts p 0
