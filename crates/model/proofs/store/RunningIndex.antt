-- The running index of a loop over n things of w cells each, from the cell `first` on: after i of them it stands at the
-- first cell of the next, and goes on by w, so that no product is needed to find it.
use Prim.Native.Nat.{ℕ, ◌+◌, ◌*◌, ◌<◌, ◌≤◌}
use mathlib.Core.Path.{◌≡◌}
use native.Mathlib.Omega.{arith}
use native.Mathlib.Nat.{mul-suc}
use Rattle.model.proofs.store.Entries.{entry_ends}

pub record RunningIndex (first w n index i : ℕ) : Type 0 where
  pub within : i ≤ n
  pub stands : index ≡ first + w * i

pub index_starts : {first w n index : ℕ} → index ≡ first → RunningIndex first w n index 0
index_starts e = record { within = omega arith; stands = omega arith }

module _ {first w n index i : ℕ} (at : RunningIndex first w n index i) (more : i < n) where
  pub index_goes_on : RunningIndex first w n (index + w) (i + 1)
  index_goes_on = record { within = omega arith; stands = omega (arith, at.stands, mul-suc w i) }

  -- where all of them are below a limit, the one that it stands at is
  pub index_inside : (limit : ℕ) → first + w * n ≤ limit → index + w ≤ limit
  index_inside limit l = omega (arith, at.stands, entry_ends w i n more)
