-- What the functions that make a part smaller promise.
use Rattle.std.specs.Prelude.{ℕ, ◌+◌, ◌-◌, ◌<◌, ◌≤◌, ◌≡◌, ◌⊎◌, List}
use Rattle.model.specs.Reduction.{Fails, Smallest, left_out}
use Rattle.reduction.specs.declared.part.Part.{Part}
use Rattle.reduction.specs.declared.search.Search.{Search}
use Rattle.reduction.specs.Parts.{kept, Held, without_block}
use Rattle.reduction.specs.Replays.{failure_of}

-- places of the list that fail as it does
abbrev pub FailsAs : Search → List ℕ → Type 0
FailsAs s places = Fails s.topology s.list.now (failure_of s.first) places

-- a part of it that fails so
pub record Failing (s : Search) (part : Part) : Type 0 where
  pub held : Held part
  pub fails : FailsAs s (kept part)

-- what trying to leave out a block gives: a part that fails so, which is without the block; or the same part, and
-- without the block it doesn't fail so
pub record Tried (s : Search) (part : Part) (from to : ℕ) (r : Part) : Type 0 where
  pub failing : Failing s r
  pub either : (r.count ≡ part.count - (to - from))
      ⊎ ((r ≡ part) × (FailsAs s (without_block from to (kept part)) → ⊥))

-- from the place at on, no single call before the last can be left out
abbrev pub LostFrom : Search → Part → ℕ → Type 0
LostFrom s part at = (i : ℕ) → at ≤ i → i + 1 < part.count → FailsAs s (left_out i (kept part)) → ⊥

-- what a pass over blocks of this size leaves of a part; one over single calls that leaves none out shows that none can
-- be
pub record Passed (s : Search) (whole : Part) (size : ℕ) (part : Part) : Type 0 where
  pub failing : Failing s part
  pub fewer : part.count ≤ whole.count
  pub lost : size ≡ 1 → part.count ≡ whole.count → LostFrom s part 0

-- a smallest part
pub record Found (s : Search) (part : Part) : Type 0 where
  pub held : Held part
  pub smallest : Smallest s.topology s.list.now (failure_of s.first) (kept part)
