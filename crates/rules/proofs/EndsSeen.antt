-- The table of the ends seen, which answers for all earlier channels at once.
use Rattle.std.proofs.Common.{◌≡◌, ℕ, suc, ◌+◌, ◌*◌, ◌<◌, Bool, true, false, not, ◌&&◌, eqb, List, length, get_or, set}
use Rattle.std.proofs.Common.{replicate, sym, refl, ap, ◌∙◌, add-one, arith, length-set, get_or-set_other}
use Rattle.std.proofs.Common.{get_or-set_same, eq-eqb, ne_eqb}
use Rattle.std.proofs.Math.Bool.{and-true}
use lib.ListN.{get_or-replicate}
use Rattle.model.specs.declared.Topology.{Topology}
use Rattle.model.specs.Notation.{all_below}
use Rattle.model.specs.Topology.{process_limit, sender, receiver, same_ends}
use Rattle.model.proofs.laws.Tests.{and_false}
use Rattle.model.proofs.laws.Functions.{Indices, indices, same, other}
use Rattle.rules.specs.Ends.{apart}

-- whether channel d runs from process f to process r
abbrev joins : Topology → ℕ → ℕ → ℕ → Bool
joins T f r d = eqb (sender T d) f && eqb (receiver T d) r

-- where the table has the channels from f to r
abbrev pub place : ℕ → ℕ → ℕ
place f r = process_limit * f + r

-- The table of the ends seen: false where no channel below c has them.
pub record Seen (T : Topology) (c : ℕ) (seen : List Bool) : Type 0 where
  pub size : length seen ≡ process_limit * process_limit
  pub free : (f r : ℕ) → f < process_limit → r < process_limit
      → not (get_or seen (place f r) false) ≡ all_below c (λ d. not (joins T f r d))

pub seen_none : (T : Topology) → Seen T 0 (replicate (process_limit * process_limit) false)
unfolding all_below
seen_none T =
    record {
      size = refl;
      free = λ f r lf lr. ap not
          (get_or-replicate (process_limit * process_limit) (place f r) false false (omega arith));
    }

module _ {T : Topology} {c : ℕ} {seen : List Bool} (s : Seen T c seen)
    (from : sender T c < process_limit) (to : receiver T c < process_limit) where
  abbrev here : ℕ
  here = place (sender T c) (receiver T c)

  -- the table tells whether channel c is apart from those before it
  pub told : not (get_or seen here false) ≡ apart T c
  unfolding apart same_ends
  told = s.free (sender T c) (receiver T c) from to

  module _ (f r : ℕ) (lf : f < process_limit) (lr : r < process_limit) where
    joins_other : (here ≡ place f r → ⊥) → joins T f r c ≡ false
    joins_other n = go (indices (sender T c) f) (indices (receiver T c) r)
      where
        go : Indices (sender T c) f → Indices (receiver T c) r → joins T f r c ≡ false
        go (other p) q = rw (ne_eqb (sender T c) f p)
        go (same p) (other q) = rw (eq-eqb (sender T c) f p, ne_eqb (receiver T c) r q)
        go (same p) (same q) = absurd (n (rw (p, q)))

    free_next : not (get_or (set seen here true) (place f r) false) ≡ all_below (suc c) (λ d. not (joins T f r d))
    unfolding all_below
    free_next = go (indices here (place f r))
      where
        below : Bool
        below = all_below c (λ d. not (joins T f r d))

        go : Indices here (place f r)
            → not (get_or (set seen here true) (place f r) false) ≡ (below && not (joins T f r c))
        go (same q) =
            let p₀ : sender T c ≡ f = omega (arith, q) in
            let p₁ : receiver T c ≡ r = omega (arith, q) in
            rw (
              ← q,
              get_or-set_same seen here true false (omega (arith, s.size)),
              eq-eqb (sender T c) f p₀,
              eq-eqb (receiver T c) r p₁,
            )
            (sym (and_false below))
        go (other q) =
            ap not (get_or-set_other seen here (place f r) true false (λ k. q (sym k)))
            ∙ s.free f r lf lr
            ∙ rw (joins_other q) (sym (and-true below))

  -- one channel more is in the table
  pub seen_next : Seen T (c + 1) (set seen here true)
  seen_next = record { size = simp length-set s.size; free = λ f r lf lr. rw (add-one c) (free_next f r lf lr) }
