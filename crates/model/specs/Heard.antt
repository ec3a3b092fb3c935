-- Document 01, "The books": what a book, a process's history, hears of an answer. "They are fed every call with its
-- arguments and, of its answer, whether it was accepted (neither refused nor cut) and whether a take gave a note or a
-- body, and which body." The number of a refusal, the room that a send leaves and the line of a recover are not heard.
use Rattle.std.specs.Prelude.{ℕ, Bool, true, false}
use Rattle.model.specs.Outcome.{Said, done, sent, took, note, line, refused, cut}

pub data Heard : Type 0 where
  -- refused or cut
  nothing : Heard
  -- accepted
  acceptance : Heard
  -- accepted, and a take gave a note, or this body
  marker : Heard
  body : ℕ → Heard

abbrev pub heard : Said → Heard
heard done = acceptance
heard (sent room) = acceptance
heard (took b) = body b
heard note = marker
heard (line k) = acceptance
heard (refused n) = nothing
heard cut = nothing

abbrev pub is_accepted : Heard → Bool
is_accepted nothing = false
is_accepted acceptance = true
is_accepted marker = true
is_accepted (body b) = true

-- "accepted (neither refused nor cut)"
abbrev pub accepted : Said → Bool
accepted o = is_accepted (heard o)
