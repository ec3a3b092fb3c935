-- Document 01, "The books". A book is a process's history, its entries are events. Histories are fed calls and what is
-- heard of their answers (Heard.antt): "State, logs and store are never asked."
use Rattle.std.specs.Prelude.{ℕ, zero, suc, Bool, true, false, cond, ◌&&◌, List, [], ◌∷◌, ◌++◌, length, take, leb, eqb}
use Rattle.std.proofs.Math.Option.{Option, none, some}
use Rattle.model.specs.declared.Topology.{Topology}
use Rattle.model.specs.declared.Step.{Step}
use Rattle.model.specs.declared.Step.TheVariants.{Send, Receive, Begin, PhysicalCheckpoint, LogicalCheckpoint}
use Rattle.model.specs.declared.Step.TheVariants.{SendMarker, Commit, Abort}
use Rattle.model.specs.declared.Receipt.{Receipt}
use Rattle.model.specs.Notation.{upd}
use Rattle.model.specs.Word.{receipt}
use Rattle.model.specs.Topology.{sender, receiver}
use Rattle.model.specs.Heard.{Heard, is_accepted}
use Rattle.model.specs.Heard as hears

-- "entries are sends and takes with wire and body"
pub data Direction : Type 0 where
  sent : Direction
  received : Direction

pub record Event : Type 0 where
  pub direction : Direction
  pub channel : ℕ
  pub body : ℕ

-- "Kept are the last finished line, the marks of the round under way, and a book for each board". "A mark is a place in
-- a board's book".
pub record History : Type 0 where
  pub events : ℕ → List Event
  pub line : ℕ → ℕ
  pub mark : ℕ → Option ℕ

unfoldable pub same_direction : Direction → Direction → Bool
same_direction sent sent = true
same_direction sent received = false
same_direction received sent = false
same_direction received received = true

-- whether an event is one in this direction on channel c
unfoldable pub is_on : Direction → ℕ → Event → Bool
is_on d c e = same_direction d e.direction && eqb c e.channel

-- the bodies sent, or received, on channel c, in order
unfoldable pub bodies_on : Direction → ℕ → List Event → List ℕ
bodies_on d c [] = []
bodies_on d c (e ∷ es) = cond (is_on d c e) (e.body ∷ bodies_on d c es) (bodies_on d c es)

-- the receipts of all receives, in order
unfoldable pub receipts_of : List Event → List Receipt
receipts_of [] = []
receipts_of (e ∷ es) =
    cond (same_direction received e.direction) (receipt e.channel e.body ∷ receipts_of es) (receipts_of es)

-- the place of the send on channel c that has n sends on c before it (the end, where there is none)
unfoldable pub place_of_send : ℕ → ℕ → List Event → ℕ
place_of_send c n [] = 0
place_of_send c zero (e ∷ es) = cond (is_on sent c e) 0 (suc (place_of_send c zero es))
place_of_send c (suc n) (e ∷ es) = suc (cond (is_on sent c e) (place_of_send c n es) (place_of_send c (suc n) es))

-- "Setup: empty books, line 0 with every mark at its book's start, no mark of a round."
unfoldable pub new_history : History
new_history = record { events = λ p. []; line = λ p. 0; mark = λ p. none }

unfoldable pub add_event : ℕ → Event → History → History
add_event p e h = record { events = upd h.events p (h.events p ++ (e ∷ [])); line = h.line; mark = h.mark }

-- "its end when the board is marked"
unfoldable pub mark_now : ℕ → History → History
mark_now p h = record { events = h.events; line = h.line; mark = upd h.mark p (some (length (h.events p))) }

-- the process is marked where it has no mark of this round
unfoldable pub mark_unmarked : Option ℕ → ℕ → History → History
mark_unmarked none p h = mark_now p h
mark_unmarked (some m) p h = h

-- "the round has none"
unfoldable pub no_marks : History → History
no_marks h = record { events = h.events; line = h.line; mark = λ p. none }

-- whether place n of a history stands after the sender's mark of this round
unfoldable pub is_after : Option ℕ → ℕ → Bool
is_after none place = false
is_after (some m) place = leb m place

-- "with n − 1 takes of this wire in the receiver's book, the n-th send on it in the sender's book is looked at": its
-- place
unfoldable pub looked_at : Topology → ℕ → History → ℕ
looked_at T c h = place_of_send c (length (bodies_on received c (h.events (receiver T c)))) (h.events (sender T c))

-- "If that stands after the sender's mark"
unfoldable pub sent_after_mark : Topology → ℕ → History → Bool
sent_after_mark T c h = is_after (h.mark (sender T c)) (looked_at T c h)

-- "If that stands after the sender's mark of this round and the receiver has none, the receiver is marked first. Then
-- the take enters the receiver's book."
unfoldable pub on_message : Topology → ℕ → ℕ → History → History
on_message T c b h =
    add_event (receiver T c) (record { direction = received; channel = c; body = b })
    (cond (sent_after_mark T c h) (mark_unmarked (h.mark (receiver T c)) (receiver T c) h) h)

-- "Take giving a body", "Take giving a note: a receiver without a mark of this round is marked. No entry."
-- (An accepted receive gives one of them.)
unfoldable pub on_receive : Topology → ℕ → Heard → History → History
on_receive T c hears.nothing h = h
on_receive T c hears.acceptance h = h
on_receive T c hears.marker h = mark_unmarked (h.mark (receiver T c)) (receiver T c) h
on_receive T c (hears.body b) h = on_message T c b h

-- the place of p's mark in a line, where the round has one
unfoldable pub mark_or : Option ℕ → ℕ → ℕ
mark_or none place = place
mark_or (some m) place = m

-- "Finish: the round's marks become the last finished line, and the round has none." (An accepted finish has a mark for
-- every process.)
unfoldable pub on_commit : History → History
on_commit h = record { events = h.events; line = λ p. mark_or (h.mark p) (h.line p); mark = λ p. none }

-- "Restart: every book is shortened to its mark in the last finished line, and the round has none."
unfoldable pub on_recover : History → History
on_recover h = record { events = λ p. take (h.line p) (h.events p); line = h.line; mark = λ p. none }

-- what an accepted step does to the histories
unfoldable pub on_accepted : Topology → Step → Heard → History → History
-- "Send: it enters the sender's book."
on_accepted T (Send c b) o h = add_event (sender T c) (record { direction = sent; channel = c; body = b }) h
on_accepted T (Receive c) o h = on_receive T c o h
-- "Begin, copy, note [..]: nothing."
on_accepted T Begin o h = h
on_accepted T (PhysicalCheckpoint p) o h = h
-- "Mark: the board is marked."
on_accepted T (LogicalCheckpoint p) o h = mark_now p h
on_accepted T (SendMarker c) o h = h
on_accepted T Commit o h = on_commit h
-- "Give up: the round has none."
on_accepted T Abort o h = no_marks h

-- what a step does to them, by what was heard of its answer: "every refused or cut call: nothing"
unfoldable pub on_step : Topology → Step → Heard → History → History
on_step T x o h = cond (is_accepted o) (on_accepted T x o h) h
