-- Where the physical checkpoints go on: at the first early process of those from one on.
use Rattle.std.proofs.Common.{◌≡◌, ◌∙◌, refl, ap, ℕ, zero, suc, ◌-◌, ◌≤◌, ◌+◌, arith}
use Rattle.std.proofs.Common.{Bool, true, false, cond, not, Option, None, Some}
use Rattle.std.specs.List.{find, range_with_len}
use Rattle.std.specs.Option.{option_map, option_map_or}
use Rattle.model.specs.declared.Topology.{Topology}
use Rattle.model.specs.declared.Phase.TheVariants.{Physical, Logical}
use Rattle.model.specs.Topology.{is_late}
use Rattle.account.specs.Round.{next_of, copying_from}

next_is : (T : Topology) (n p : ℕ)
    → option_map_or Physical (find (λ q. not (is_late T q)) (range_with_len p n)) Logical ≡ next_of T n p
unfolding next_of
next_is T zero p = refl
next_is T (suc n) p = go (is_late T p) (next_is T n (p + 1))
  where
    later : Option ℕ
    later = find (λ q. not (is_late T q)) (range_with_len (p + 1) n)

    go : (late : Bool) → option_map_or Physical later Logical ≡ next_of T n (p + 1)
        → option_map_or Physical (cond (not late) (Some p) later) Logical ≡ cond late (next_of T n (p + 1)) (Physical p)
    go true ih = ih
    go false ih = refl

-- as the code finds it
pub found_next : (T : Topology) (n p : ℕ) (found : Option ℕ)
    → option_map (λ q. q) found ≡ find (λ q. not (is_late T q)) (range_with_len p n)
    → option_map_or Physical found Logical ≡ next_of T n p
found_next T n p None e = ap (λ (o : Option ℕ). option_map_or Physical o Logical) e ∙ next_is T n p
found_next T n p (Some q) e = ap (λ (o : Option ℕ). option_map_or Physical o Logical) e ∙ next_is T n p

-- there is no process after the last number
pub next_none : (T : Topology) (p : ℕ) → T.processes ≤ p → copying_from T p ≡ Logical
unfolding copying_from next_of
next_none T p l = let none_left : T.processes - p ≡ 0 = omega arith in rw none_left refl
