-- Document 02, M-100: the part of a list that matters. The field's terms: delta debugging, and a 1-minimal part that
-- still fails.
use Rattle.std.specs.Prelude.{ℕ, ◌+◌, ◌-◌, ◌<◌, ◌≡◌, List, [], ◌∷◌, ◌++◌, map, length, get_or, take, drop, ltb}
use Rattle.std.proofs.Math.Option.{Option, none, some, or_else}
use Rattle.model.specs.declared.Topology.{Topology}
use Rattle.model.specs.declared.Record.{Record}
use Rattle.model.specs.declared.Record.TheVariants.{Recover}
use Rattle.model.specs.Check.{◌gives◌, first_refusal}
use Rattle.model.specs.Topology.{topology_refusal}
use Rattle.model.specs.CallList.{list_limit, Failure, first_failure}

-- A part of a list is given by the places of its calls: these are the calls. (Every place of a part that fails is one
-- of the list: they rise, and the last is the list's first failure.)
abbrev pub calls_at : List Record → List ℕ → List Record
calls_at calls part = map (λ i. get_or calls i Recover) part

-- "in order": the places rise, so that two equal calls are told apart
abbrev pub Rising : List ℕ → Type 0
Rising part = (i j : ℕ) → i < j → j < length part → get_or part i 0 < get_or part j 0

-- The part fails as the list does, whose first failure is f: "a part of the list, in order, whose last step is the
-- first refused, with the same number", and "The original list's refused step is its last step."
pub record Fails (T : Topology) (calls : List Record) (f : Failure) (part : List ℕ) : Type 0 where
  pub rising : Rising part
  pub last : get_or part (length part - 1) 0 ≡ f.place
  pub failure : first_failure T (calls_at calls part)
      ≡ some (record { place = length part - 1; number = f.number })

-- the part without its i-th call
abbrev pub left_out : ℕ → List ℕ → List ℕ
left_out i part = take i part ++ drop (i + 1) part

-- "Leaving out any one of its steps must lose that."
pub record Smallest (T : Topology) (calls : List Record) (f : Failure) (part : List ℕ) : Type 0 where
  pub fails : Fails T calls f part
  pub lost : (i : ℕ) → i < length part → Fails T calls f (left_out i part) → ⊥

-- what is answered: a refusal, or the list's first failure
pub data Sought : Type 0 where
  refuses : ℕ → Sought
  finds : Failure → Sought

-- "18, the list is longer than 256, looked at first; then 1 to 5", and 19, which M-105 puts after 5
unfoldable pub list_refusal : Topology → List Record → Option ℕ
list_refusal T calls = or_else (first_refusal ((ltb list_limit (length calls) gives 18) ∷ [])) (topology_refusal T)

-- "17, no step is refused, last."
unfoldable pub sought_by : Option ℕ → Option Failure → Sought
sought_by (some n) f = refuses n
sought_by none none = refuses 17
sought_by none (some f) = finds f

unfoldable pub sought : Topology → List Record → Sought
sought T calls = sought_by (list_refusal T calls) (first_failure T calls)

-- The part beside it: none with a refusal, else a smallest one. "Which of several such parts comes back is left open."
abbrev pub PartFor : Topology → List Record → Sought → List ℕ → Type 0
PartFor T calls (refuses n) part = part ≡ []
PartFor T calls (finds f) part = Smallest T calls f part
