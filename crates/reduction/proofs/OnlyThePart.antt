-- The promise of `reduce` leaves the part open where there is one, and nothing else (the statement is OnlyThePart of
-- specs/OnlyThePart.antt).
use Rattle.std.proofs.Common.{◌≡◌, ℕ, List, [], refl, sym, ap, ◌∙◌, arith}
use Rattle.std.specs.Prelude.{Result, Ok, Err}
use Rattle.model.specs.declared.Topology.{Topology}
use Rattle.model.specs.declared.Record.{Record}
use Rattle.model.specs.declared.Refusal.{Refusal}
use Rattle.model.specs.CallList.{Failure}
use Rattle.model.specs.Outcome.{refusal_number}
use Rattle.model.specs.Reduction.{refuses, finds, sought}
use Rattle.model.proofs.ToldApart.{told_apart}
use Rattle.reduction.specs.declared.Reduced.{Reduced}
use Rattle.reduction.specs.declared.part.Part.{Part}
use Rattle.reduction.specs.Parts.{kept, part_of, Held}
use Rattle.reduction.specs.Reduces.{Reduces}
use Rattle.reduction.specs.OnlyThePart.{kept_in, OnlyThePart}

part_fixed : {a b : Part} → Held a → Held b → kept a ≡ kept b → a ≡ b
part_fixed h k e = h.whole ∙ (ap part_of e ∙ sym k.whole)

-- what is said tells what was found, since a number tells its refusal
fixed : (T : Topology) (calls : List Record) (r s : Result Reduced Refusal) → Reduces T calls r → Reduces T calls s
    → kept_in r ≡ kept_in s → r ≡ s
fixed T calls (Ok r) (Ok s) p q e =
    let f : Failure = record { place = r.place; number = refusal_number r.refusal } in
    let g : Failure = record { place = s.place; number = refusal_number s.refusal } in
    let same : finds f ≡ finds g = p.answer ∙ sym q.answer in
    let both : f ≡ g = cc in
    let place : r.place ≡ s.place = ap (λ (x : Failure). x.place) both in
    let refusal : r.refusal ≡ s.refusal = told_apart.refusals _ _ (ap (λ (x : Failure). x.number) both) in
    let part : r.part ≡ s.part = part_fixed p.parted.held q.parted.held e in
    let rooms : r.rooms ≡ s.rooms = p.parted.rooms ∙ rw e (sym q.parted.rooms) in
    let from : ℕ → Refusal → Part → List ℕ → Reduced =
    λ w x y z. record { place = w; refusal = x; part = y; rooms = z } in
    let all : from r.place r.refusal r.part r.rooms ≡ from s.place s.refusal s.part s.rooms =
    rw (place, refusal, part, rooms) in
    ap Ok all
fixed T calls (Ok r) (Err s) p q e =
    let same = p.answer ∙ sym q.answer in let never : ◌≡◌ {A = ℕ} 0 1 = cc in absurd (omega arith)
fixed T calls (Err r) (Ok s) p q e =
    let same = p.answer ∙ sym q.answer in let never : ◌≡◌ {A = ℕ} 0 1 = cc in absurd (omega arith)
fixed T calls (Err r) (Err s) p q e =
    let same : refuses (refusal_number r) ≡ refuses (refusal_number s) = p.answer ∙ sym q.answer in
    let number : refusal_number r ≡ refusal_number s = cc in
    ap Err (told_apart.refusals r s number)

-- where the list is refused, neither has a part
none_kept : (T : Topology) (calls : List Record) (r : Result Reduced Refusal) → Reduces T calls r → (n : ℕ)
    → sought T calls ≡ refuses n → kept_in r ≡ []
none_kept T calls (Ok r) p n e = rw e at p.parted.part
none_kept T calls (Err r) p n e = refl

pub only_the_part : OnlyThePart
only_the_part =
    record {
      places = fixed;
      refused = λ T calls r s p q n e.
          fixed T calls r s p q (none_kept T calls r p n e ∙ sym (none_kept T calls s q n e));
    }
