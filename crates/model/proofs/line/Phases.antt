-- The invariant at a phase that is known.
use Prim.Native.Nat.{ℕ, ◌<◌}
use mathlib.Core.Path.{◌≡◌, refl, subst}
use mathlib.Core.Bool.{true}
use mathlib.Core.List.{List}
use borrow.Author.Tests.{eqb-true}
use Rattle.model.specs.declared.Phase.{Phase}
use Rattle.model.specs.declared.Phase.TheVariants.{Idle, Physical, Logical}
use Rattle.model.specs.Phase.{is_idle, is_logical, is_next}
use Rattle.model.specs.State.{GlobalState}
use Rattle.model.specs.History.{History}
use Rattle.model.proofs.laws.Tests.{true_is_not_false}
use Rattle.model.proofs.line.Values.{process_at, channel_at}
use Rattle.model.proofs.line.Invariant.{ProcessHolds, ChannelHolds, Inv}

pub is_idle_lem : (ph : Phase) → is_idle ph ≡ true → ph ≡ Idle
is_idle_lem Idle e = refl
is_idle_lem (Physical next) e = true_is_not_false e refl
is_idle_lem Logical e = true_is_not_false e refl

pub is_logical_lem : (ph : Phase) → is_logical ph ≡ true → ph ≡ Logical
is_logical_lem Idle e = true_is_not_false e refl
is_logical_lem (Physical next) e = true_is_not_false e refl
is_logical_lem Logical e = refl

pub is_next_lem : (ph : Phase) (p : ℕ) → is_next ph p ≡ true → ph ≡ Physical p
is_next_lem Idle p e = true_is_not_false e refl
is_next_lem (Physical next) p e = rw (eqb-true p next e)
is_next_lem Logical p e = true_is_not_false e refl

module _ {s : GlobalState} {st : List ℕ} {h : History} (i : Inv s st h) {ph : Phase} (e : s.round.phase ≡ ph) where
  pub process_in : (p : ℕ) → p < s.topology.processes → ProcessHolds i.tag ph p (process_at s st h p)
  process_in p l = subst (λ (x : Phase). ProcessHolds i.tag x p (process_at s st h p)) e (i.processes p l)

  pub channel_in : (c : ℕ) → c < s.topology.channels → ChannelHolds i.tag ph (channel_at s st h c)
  channel_in c l = subst (λ (x : Phase). ChannelHolds i.tag x (channel_at s st h c)) e (i.channels c l)
