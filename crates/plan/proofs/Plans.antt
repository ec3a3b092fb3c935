-- Laws of the plan's checks: what a plan that passes the first of them has, and the ends of its channels as an array.
use Prim.Native.Nat.{ℕ, ◌+◌, ◌*◌, ◌≤◌, ◌<◌}
use mathlib.Core.Path.{◌≡◌, refl, sym, ap, ◌∙◌}
use mathlib.Core.List.{List, [], ◌∷◌}
use mathlib.Core.Option.{none, or_else}
use lib.ListN.{length, get_or, set, replicate, length-set}
use lib.Dec.{ltb}
use lib.Seq.{ext_get_or}
use borrow.Author.Tests.{ltb-false}
use native.Mathlib.Omega.{arith}
use Rattle.model.specs.Notation.{tabulate}
use Rattle.model.specs.Check.{Check, ◌gives◌, first_refusal}
use Rattle.model.specs.Topology.{channel_limit, size_refusal}
use Rattle.model.specs.Program.{end_byte, map_start, plan_length, shape_refusal}
use Rattle.model.proofs.laws.Functions.{seen_replicate, filled_below, filled_none, filled_more}
use Rattle.model.proofs.laws.Lists.{tabulate_length, tabulate_at, or_else_none}
use Rattle.model.proofs.laws.Passing.{passed}
use Rattle.model.proofs.laws.TopologyLaws.{SizesFit, sizes}

-- as many processes and channels as there may be, and the bytes of all of them and of the map
pub record Whole (bytes : List ℕ) : Type 0 where
  pub fit : SizesFit (get_or bytes 0 0) (get_or bytes 1 0)
  pub all : 2 + 2 * get_or bytes 1 0 + 2 ≤ length bytes

pub whole : (bytes : List ℕ) → shape_refusal bytes ≡ none → Whole bytes
unfolding shape_refusal plan_length map_start
whole bytes e =
    let short : List Check = (ltb (length bytes) 2 gives 7) ∷ [] in
    let broken : List Check = (ltb (length bytes) (plan_length bytes) gives 7) ∷ [] in
    let size = size_refusal (get_or bytes 0 0) (get_or bytes 1 0) in
    let (_, later) = or_else_none (first_refusal short) (or_else size (first_refusal broken)) e in
    let (few, long) = or_else_none size (first_refusal broken) later in
    record { fit = sizes _ _ few; all = ltb-false _ _ (passed broken long).0 }

-- an array with one end of the first c channels, and 0 past them: none, one more, all
pub record Ends (bytes : List ℕ) (at : ℕ) (r : List ℕ) (c : ℕ) : Type 0 where
  pub within : c ≤ get_or bytes 1 0
  pub room : length r ≡ channel_limit
  pub ends : (λ (i : ℕ). get_or r i 0) ≡ filled_below c (λ i. get_or bytes (at + 2 * i) 0) 0

module _ {bytes : List ℕ} {at : ℕ} where
  pub no_ends : Ends bytes at (replicate channel_limit 0) 0
  no_ends =
      record { within = omega arith; room = refl; ends = seen_replicate channel_limit 0 ∙ filled_none _ 0 }

  module _ {r : List ℕ} {c : ℕ} (p : Ends bytes at r c) where
    pub one_end : c < get_or bytes 1 0 → c < length r → Ends bytes at (set r c (get_or bytes (at + 2 * c) 0)) (c + 1)
    one_end l room =
        record {
          within = omega arith;
          room = simp length-set p.room;
          ends = filled_more (λ x. x) r 0 _ c _ 0 room p.ends refl;
        }

    pub all_ends : get_or bytes 1 0 ≤ c → r ≡ tabulate channel_limit (end_byte bytes at)
    unfolding end_byte
    all_ends l =
        let ends = end_byte bytes at in
        let e : c ≡ get_or bytes 1 0 = omega (arith, p.within) in
        let all = rw e at p.ends in
        ext_get_or 0 r (tabulate channel_limit ends) (p.room ∙ sym (tabulate_length channel_limit ends))
        (λ i k. ap (λ (f : ℕ → ℕ). f i) all ∙ sym (tabulate_at channel_limit ends i 0 (omega (arith, p.room))))
