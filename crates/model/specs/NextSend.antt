-- Document 02, M-104, "Senders want to slow down in time": what a send says of room is what one on its channel right
-- after it finds. The theorem is proofs/NextSend.antt.
use Rattle.std.specs.Prelude.{ℕ, ◌-◌, ◌≡◌, cond, List, eqb}
use Rattle.model.specs.declared.Step.TheVariants.{Send}
use Rattle.model.specs.Outcome.{sent, refused}
use Rattle.model.specs.State.{GlobalState}
use Rattle.model.specs.Write.{Answered}
use Rattle.model.specs.Step.{answer}

-- A send on channel c that says n leaves room for n more: another one right after it says one less, and where n is 0 it
-- is refused with 9. For any state, bodies, budgets and store.
abbrev pub NextSend : Type 0
NextSend =
    (s : GlobalState) (store : List ℕ) (c b d n budget later : ℕ)
    → let a : Answered = answer s (Send c b) store budget in
    a.outcome ≡ sent n
    → (answer a.state (Send c d) a.store later).outcome ≡ cond (eqb n 0) (refused 9) (sent (n - 1))
