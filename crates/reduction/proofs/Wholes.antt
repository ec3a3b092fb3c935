-- Laws of the part that a list starts with: all calls of it, and those up to its first failure, which fails as the list
-- does.
use Rattle.std.proofs.Common.{◌≡◌, ℕ, zero, suc, ◌+◌, ◌-◌, ◌<◌, ◌≤◌, List, [], ◌∷◌, map, length, get_or, take}
use Rattle.std.proofs.Common.{replicate}
use Rattle.std.proofs.Common.{refl, sym, ap, ◌∙◌, arith}
use mathlib.Core.Option.{Option, none, some, some-ne-none}
use lib.ListN.{length-map}
use lib.Seq.{ext_get_or, get_or-take, length-take-le, take-length}
use Rattle.model.specs.declared.Topology.{Topology}
use Rattle.model.specs.declared.Record.{Record}
use Rattle.model.specs.declared.Record.TheVariants.{Recover}
use Rattle.model.specs.Outcome.{refused_with}
use Rattle.model.specs.Layout.{store_cells}
use Rattle.model.specs.Program.{full_budget}
use Rattle.model.specs.Run.{Call, World, reply_to, next, trace, first_world}
use Rattle.model.specs.ProgramsAreRuns.{call_with}
use Rattle.model.specs.CallList.{list_limit, Failure, failure_or, first_from, replies, first_failure}
use Rattle.model.specs.Reduction.{calls_at, Fails}
use Rattle.model.proofs.laws.Lists.{tabulate_length, map_tabulate, tabulate_at}
use Rattle.reduction.specs.declared.part.Part.{Part}
use Rattle.reduction.specs.Parts.{kept, part_of, Held}
use Rattle.reduction.specs.declared.search.Search.{Search}
use Rattle.reduction.specs.Replays.{failure_of}
use Rattle.reduction.specs.Passes.{Failing}
use Rattle.reduction.proofs.Parts.{numbers, numbers_length, numbers_at, kept_holding, held_holding}

-- the part of so many calls, and of all
pub held_places : {part : Part} {n : ℕ} → n ≤ list_limit → part ≡ part_of (numbers n) → Held part
held_places {n = n} l e = rw e (held_holding (numbers n) (rw (numbers_length n) l))

first_calls : (cs : List Record) (n : ℕ) → n ≤ length cs → calls_at cs (numbers n) ≡ take n cs
first_calls cs n l =
    map_tabulate (λ i. get_or cs i Recover) n (λ i. i)
    ∙ ext_get_or Recover _ (take n cs) (tabulate_length n _ ∙ sym (length-take-le n cs l))
    (λ i k.
    let below : i < n = rw (tabulate_length n (λ i. get_or cs i Recover)) at k in
    tabulate_at n (λ i. get_or cs i Recover) i Recover below ∙ sym (get_or-take n cs i Recover below))

pub all_calls : (cs : List Record) {part : Part} → part ≡ part_of (numbers (length cs)) → calls_at cs (kept part) ≡ cs
all_calls cs e = rw (e, kept_holding (numbers (length cs)), first_calls cs (length cs) (omega arith), take-length cs)

map_take : {A B : Type 0} (f : A → B) (n : ℕ) (l : List A) → map f (take n l) ≡ take n (map f l)
map_take f zero l = refl
map_take f (suc n) [] = refl
map_take f (suc n) (x ∷ l) = rw (map_take f n l)

-- the first failure is one of the list's, and is also that of the calls up to it
record Prefixed (T : Topology) (place : ℕ) (w : World) (cs : List Call) (f : Failure) : Type 0 where
  after : place ≤ f.place
  before : f.place < place + length cs
  same : first_from place (trace T w (take (f.place + 1 - place) cs)) ≡ some f

prefixed : (T : Topology) (place : ℕ) (w : World) (cs : List Call) (f : Failure)
    → first_from place (trace T w cs) ≡ some f → Prefixed T place w cs f
unfolding trace first_from failure_or
prefixed T place w [] f e = absurd (some-ne-none f (sym e))
prefixed T place w (c ∷ cs) f e =
    go (refused_with (reply_to T w c).outcome) refl (λ h. prefixed T (place + 1) (next T w c) cs f h)
  where
    go : (x : Option ℕ) → refused_with (reply_to T w c).outcome ≡ x
        → (first_from (place + 1) (trace T (next T w c) cs) ≡ some f → Prefixed T (place + 1) (next T w c) cs f)
        → Prefixed T place w (c ∷ cs) f
    go (some n) q others =
        let found : some (record { place = place; number = n }) ≡ some f = rw q at e in
        let here : record { place = place; number = n } ≡ f = cc in
        let at : place ≡ f.place = ap (λ (x : Failure). x.place) here in
        let one : f.place + 1 - place ≡ suc zero = omega (arith, at) in
        record {
          after = omega (arith, at);
          before = omega (arith, at);
          same = ap (λ (m : ℕ). first_from place (trace T w (take m (c ∷ cs)))) one ∙ rw q found;
        }
    go none q others =
        let later = others (rw q at e) in
        let more : f.place + 1 - place ≡ suc (f.place + 1 - (place + 1)) = omega (arith, later.after) in
        record {
          after = omega (arith, later.after);
          before = omega (arith, later.before);
          same = ap (λ (m : ℕ). first_from place (trace T w (take m (c ∷ cs)))) more ∙ rw q later.same;
        }

module _ (T : Topology) (cs : List Record) (f : Failure) (e : first_failure T cs ≡ some f) where
  first : Prefixed T 0 (first_world T (replicate store_cells 0)) (map (call_with full_budget) cs) f
  unfolding first_failure replies
  first = prefixed T 0 (first_world T (replicate store_cells 0)) (map (call_with full_budget) cs) f e

  pub place_within : f.place < length cs
  place_within = omega (arith, first.before, length-map cs (call_with full_budget))

  abbrev up_to : List ℕ
  up_to = numbers (f.place + 1)

  count : length up_to ≡ f.place + 1
  count = numbers_length (f.place + 1)

  at : (i : ℕ) → i < f.place + 1 → get_or up_to i 0 ≡ i
  at i l = numbers_at (f.place + 1) i l

  -- the calls up to the first failure fail as the list does
  found : first_failure T (calls_at cs up_to) ≡ some (record { place = length up_to - 1; number = f.number })
  unfolding first_failure replies
  found =
      let n : ℕ = f.place + 1 in
      let within : n ≤ length cs = omega (arith, place_within) in
      let place : length up_to - 1 ≡ f.place = omega (arith, count) in
      let whole : n - 0 ≡ n = omega arith in
      rw (first_calls cs n within, map_take (call_with full_budget) n cs, place)
      (rw whole at first.same)

  whole_part : Fails T cs f up_to
  whole_part =
      record {
        rising = λ i j l k. rw (at i (omega (arith, count)), at j (omega (arith, count))) l;
        last = ap (λ (n : ℕ). get_or up_to (n - 1) 0) count ∙ at (f.place + 1 - 1) (omega arith) ∙ omega arith;
        failure = found;
      }

-- so a search starts with a part that fails
module _ (s : Search) where
  pub first_within : s.first.place < list_limit
  first_within = omega (arith, place_within s.topology s.list.now (failure_of s.first) s.fails, s.few)

  pub whole_fails : {part : Part} → part ≡ part_of (numbers (s.first.place + 1)) → Failing s part
  whole_fails e =
      record {
        held = held_places (omega (arith, first_within)) e;
        fails =
            rw (e, kept_holding (numbers (s.first.place + 1)))
            (whole_part s.topology s.list.now (failure_of s.first) s.fails);
      }
