-- What the histories look for is there (the statement is AlwaysFound of specs/AlwaysFound.antt): an accepted commit
-- finds a mark for every planned process, and an accepted receive of a message the send of it.
use Prim.Native.Nat.{ℕ, zero, suc, ◌<◌}
use mathlib.Core.Path.{◌≡◌, refl, sym, ap, subst, ◌∙◌}
use mathlib.Core.Bool.{true}
use mathlib.Core.List.{List, [], ◌∷◌}
use mathlib.Core.Option.{some}
use lib.ListN.{length, take, drop}
use lib.Seq.{drop-append_seam}
use lib.Dec.{eqb}
use borrow.Author.Tests.{eqb-true}
use native.Mathlib.Omega.{arith}
use Rattle.model.specs.declared.Topology.{Topology}
use Rattle.model.specs.declared.Entry.{Entry}
use Rattle.model.specs.declared.Entry.TheVariants.{Message, Marker}
use Rattle.model.specs.declared.Step.TheVariants.{Receive, Commit}
use Rattle.model.specs.Topology.{sender, receiver}
use Rattle.model.specs.Channel.{bodies}
use Rattle.model.specs.State.{GlobalState}
use Rattle.model.specs.Outcome.{took}
use Rattle.model.specs.Heard.{accepted}
use Rattle.model.specs.Step.{quietly, received_outcome, receive, effect, answer}
use Rattle.model.specs.History.{Event, History, Direction, sent, received, is_on, same_direction, bodies_on}
use Rattle.model.specs.History.{place_of_send}
use Rattle.model.specs.History.{looked_at}
use Rattle.model.specs.Run.{World, run, first_world}
use Rattle.model.specs.AlwaysFound.{HistoriesFind, AlwaysFound}
use Rattle.model.proofs.laws.Tests.{true_is_not_false, and_left, and_right, Tested, holds, fails, test}
use Rattle.model.proofs.laws.Calls.{accepted_passes}
use Rattle.model.proofs.laws.HistoryLaws.{sent_on}
use Rattle.model.proofs.line.Phases.{is_logical_lem}
use Rattle.model.proofs.line.Facts.{Facts, facts}
use Rattle.model.proofs.Demand3.{InvOf, end_holds}

-- an event that is a send on c
is_sent : (d : Direction) → same_direction sent d ≡ true → d ≡ sent
unfolding same_direction
is_sent sent e = refl
is_sent received e = true_is_not_false e refl

is_send_lem : (c : ℕ) (e : Event) → is_on sent c e ≡ true → e ≡ sent_on c e.body
unfolding is_on
is_send_lem c e t =
    let direction = is_sent e.direction (and_left (same_direction sent e.direction) (eqb c e.channel) t) in
    let channel = eqb-true c e.channel (and_right (same_direction sent e.direction) (eqb c e.channel) t) in
    λ i. record { direction = direction i; channel = sym channel i; body = e.body }

-- the send that has n sends on c before it, where there are so many
abbrev There : ℕ → ℕ → List Event → ℕ → Type 0
There c n es b = take 1 (drop (place_of_send c n es) es) ≡ sent_on c b ∷ []

nth_send : (c n : ℕ) (es : List Event) (b : ℕ) (rest : List ℕ) → drop n (bodies_on sent c es) ≡ b ∷ rest
    → There c n es b
unfolding bodies_on place_of_send
nth_send c zero [] b rest p = cc
nth_send c (suc n) [] b rest p = cc
nth_send c zero (e ∷ es) b rest p = go (test (is_on sent c e)) (nth_send c zero es b rest)
  where
    go : Tested (is_on sent c e) → (drop zero (bodies_on sent c es) ≡ b ∷ rest → There c zero es b)
        → There c zero (e ∷ es) b
    go (holds t) ih =
        let q : e.body ∷ bodies_on sent c es ≡ b ∷ rest = rw t at p in
        let own : e.body ≡ b = cc in
        rw t (ap (λ (x : Event). x ∷ []) (is_send_lem c e t ∙ ap (sent_on c) own))
    go (fails t) ih = rw t (ih (rw t at p))
nth_send c (suc n) (e ∷ es) b rest p = go (test (is_on sent c e)) (nth_send c n es b rest)
    (nth_send c (suc n) es b rest)
  where
    go : Tested (is_on sent c e) → (drop n (bodies_on sent c es) ≡ b ∷ rest → There c n es b)
        → (drop (suc n) (bodies_on sent c es) ≡ b ∷ rest → There c (suc n) es b) → There c (suc n) (e ∷ es) b
    go (holds t) fewer ih = rw t (fewer (rw t at p))
    go (fails t) fewer ih = rw t (ih (rw t at p))

-- the first entry of a channel on which a message was received
received_first : (s : GlobalState) (c : ℕ) (es : List Entry) (b : ℕ) → (receive s c es).outcome ≡ took b
    → (rest : List ℕ) × (bodies es ≡ b ∷ rest)
unfolding receive quietly received_outcome bodies
received_first s c [] b e = let z : ◌≡◌ {A = ℕ} 0 1 = cc in absurd (omega arith)
received_first s c (Message x t ∷ es) b e = (bodies es, cc)
received_first s c (Marker ∷ es) b e = let z : ◌≡◌ {A = ℕ} 0 1 = cc in absurd (omega arith)

module _ (s : GlobalState) (st : List ℕ) (h : History) (i : Facts s st h) where
  marks : (budget : ℕ) → accepted (answer s Commit st budget).outcome ≡ true
      → (p : ℕ) → p < s.topology.processes → (m : ℕ) × (h.mark p ≡ some m)
  marks budget ok p l =
      let (a, _) = accepted_passes s Commit st budget ok in
      i.marks (is_logical_lem s.round.phase a.prior.phase) p l (a.prior.processes p l)

  sends : (c budget b : ℕ) → (answer s (Receive c) st budget).outcome ≡ took b
      → take 1 (drop (looked_at s.topology c h) (h.events (sender s.topology c))) ≡ sent_on c b ∷ []
  unfolding effect looked_at
  sends c budget b e =
      let (a, is) = accepted_passes s (Receive c) st budget (rw e) in
      let (rest, first) = received_first s c (s.channel c) b (rw is at e) in
      let arrived : List ℕ = bodies_on received c (h.events (receiver s.topology c)) in
      nth_send c (length arrived) (h.events (sender s.topology c)) b rest
      (ap (drop (length arrived)) (i.channels c a.prior.planned) ∙ drop-append_seam arrived
      (bodies (s.channel c)) ∙ first)

pub always_found : AlwaysFound
always_found T store ready calls =
    let w : World = run T (first_world T store) calls in
    let i : InvOf T w = end_holds T store ready calls in
    subst (λ (T' : Topology). HistoriesFind T' w) i.topology
    (record {
      marks = marks w.state w.store w.history (facts i.holds);
      sends = sends w.state w.store w.history (facts i.holds);
    })
