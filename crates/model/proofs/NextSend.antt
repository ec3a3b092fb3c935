-- What a send says of room is what one on its channel right after it finds (NextSend of specs/NextSend.antt).
use Prim.Native.Nat.{ℕ, ◌-◌, ◌≤◌, ◌<◌}
use mathlib.Core.Path.{◌≡◌, sym, ap, ◌∙◌}
use mathlib.Core.Bool.{true, false, cond}
use mathlib.Core.List.{List, [], ◌∷◌, ◌++◌}
use lib.ListN.{length, length-append}
use lib.Dec.{eqb}
use borrow.Author.Tests.{lt-ltb, le-ltb}
use native.Mathlib.Omega.{arith}
use Rattle.model.specs.declared.Entry.{Entry}
use Rattle.model.specs.declared.Entry.TheVariants.{Message}
use Rattle.model.specs.declared.Step.TheVariants.{Send}
use Rattle.model.specs.Check.{first_refusal}
use Rattle.model.specs.Topology.{sender, has_channel}
use Rattle.model.specs.Channel.{room_left, no_room_for_message}
use Rattle.model.specs.Layout.{store_cells}
use Rattle.model.specs.Outcome.{sent, refused, room_said}
use Rattle.model.specs.State.{GlobalState}
use Rattle.model.specs.Sound.{sound}
use Rattle.model.specs.Change.{set_entries, with_channel}
use Rattle.model.specs.Write.{Answered, under_budget, write_all}
use Rattle.model.specs.Step.{prior_checks, room_checks, log_checks, own_checks, step_checks, quietly, effect, result_of}
use Rattle.model.specs.Step.{step, answer}
use Rattle.model.specs.NextSend.{NextSend}
use Rattle.model.proofs.laws.Functions.{upd_same}
use Rattle.model.proofs.laws.Tests.{Tested, holds, fails, test}
use Rattle.model.proofs.laws.Calls.{accepted_passes}
use Rattle.model.proofs.Soundness.{answer_sound}

-- a message more leaves room for one entry less
one_less : (es : List Entry) (e : Entry) → room_left (es ++ (e ∷ [])) ≡ room_left es - 1
one_less es e = rw (length-append es (e ∷ [])) (omega arith)

-- a send on a planned channel of a sound state that holds these entries
module _ (s : GlobalState) (store : List ℕ) (c d budget : ℕ) (fit : sound s ≡ true)
    (cells : store_cells ≤ length store) (planned : c < s.topology.channels) (es : List Entry)
    (holds-them : s.channel c ≡ es) where
  full : eqb (room_left es) 0 ≡ true → (answer s (Send c d) store budget).outcome ≡ refused 9
  unfolding
      answer step step_checks own_checks prior_checks room_checks first_refusal result_of quietly under_budget
      has_channel no_room_for_message
  full e =
      rw (
        fit,
        le-ltb (length store) store_cells cells,
        lt-ltb c s.topology.channels planned,
        holds-them,
        e,
        le-ltb budget 0 (omega arith),
      )

  free : eqb (room_left es) 0 ≡ false → (answer s (Send c d) store budget).outcome ≡ sent (room_left es - 1)
  unfolding
      answer step step_checks own_checks prior_checks room_checks log_checks first_refusal result_of effect quietly
      under_budget has_channel no_room_for_message
  free e =
      rw (
        fit,
        le-ltb (length store) store_cells cells,
        lt-ltb c s.topology.channels planned,
        holds-them,
        e,
        le-ltb budget 0 (omega arith),
      )
      (rw holds-them (ap sent (one_less es _)))

  found : (answer s (Send c d) store budget).outcome ≡ cond (eqb (room_left es) 0) (refused 9) (sent (room_left es - 1))
  found = go (test (eqb (room_left es) 0))
    where
      go : Tested (eqb (room_left es) 0)
          → (answer s (Send c d) store budget).outcome
          ≡ cond (eqb (room_left es) 0) (refused 9) (sent (room_left es - 1))
      go (holds t) = rw t (full t)
      go (fails t) = rw t (free t)

pub next_send : NextSend
unfolding effect quietly write_all set_entries with_channel
next_send s store c b d n budget later e =
    let (a, q) = accepted_passes s (Send c b) store budget (rw e) in
    let es : List Entry = s.channel c ++ (Message b (s.tag (sender s.topology c)) ∷ []) in
    let fit : sound (set_entries c es s) ≡ true = rw q at (answer_sound s (Send c b) store budget a.fit) in
    let said : room_left es ≡ n = ap room_said (sym (ap (λ (x : Answered). x.outcome) q) ∙ e) in
    rw (q, ← said)
    (found (set_entries c es s) store c d later fit a.cells a.prior es (upd_same s.channel c es))
