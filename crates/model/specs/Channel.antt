-- Document 01's wire: a first in first out list of entries, each a message (body and tag) or a marker (note). The
-- code's array is seen as that list.
use Rattle.std.specs.Prelude.{ℕ, ◌-◌, Bool, true, false, cond, List, [], ◌∷◌, map, get_or, length, eqb}
use Rattle.model.specs.declared.Channel.{Channel}
use Rattle.model.specs.declared.Places.{Places}
use Rattle.model.specs.declared.Entry.{Entry}
use Rattle.model.specs.declared.Entry.TheVariants.{Message, Marker}
use Rattle.model.specs.declared.Receipt.{Receipt}
use Rattle.model.specs.Notation.{tabulate}
use Rattle.model.specs.Word.{receipt}

-- "holds at most 8 entries"
abbrev pub channel_room : ℕ
channel_room = 8

-- how many places a channel's arrays have in the code; no rule rests on it
abbrev pub array_places : ℕ
array_places = 8

-- the channel that these places hold, of which n are used; and a channel's places
abbrev pub held : Places → ℕ → Channel
held places n = record { bodies = places.bodies; kinds = places.kinds; count = n }

abbrev pub places_of : Channel → Places
places_of c = record { bodies = c.bodies; kinds = c.kinds }

-- what a place's kind and body mean: kind 0 and 1 a message with that tag, any other kind a marker
unfoldable pub entry_of : ℕ → ℕ → Entry
entry_of kind body = cond (eqb kind 0) (Message body false) (cond (eqb kind 1) (Message body true) Marker)

-- what place i of a channel holds; a place past the array reads as one fixed entry
abbrev pub entry_at : Channel → ℕ → Entry
entry_at c i = entry_of (get_or c.kinds i 0) (get_or c.bodies i 0)

-- a channel's entries: as many as its count says, whatever the count, so that a count over 8 shows
unfoldable pub entries : Channel → List Entry
entries c = tabulate c.count (entry_at c)

-- the bodies of its messages, in order
unfoldable pub bodies : List Entry → List ℕ
bodies [] = []
bodies (Message b t ∷ es) = b ∷ bodies es
bodies (Marker ∷ es) = bodies es

-- whether it holds no marker
unfoldable pub markerless : List Entry → Bool
markerless [] = true
markerless (Message b t ∷ es) = markerless es
markerless (Marker ∷ es) = false

-- messages with these bodies, all with tag t
unfoldable pub messages : Bool → List ℕ → List Entry
messages t bs = map (λ b. Message b t) bs

-- How much of a channel's room entries take up: a place each, a marker too. What there is room for, and what is too
-- much (refusals 9 and 15), rests on this alone.
abbrev pub occupied : List Entry → ℕ
occupied es = length es

-- how many entries a channel that has these can still hold
abbrev pub room_left : List Entry → ℕ
room_left es = channel_room - occupied es

-- "9 wire holds 8 entries": there is no room for one more message, and none for a marker
unfoldable pub no_room_for_message : List Entry → Bool
no_room_for_message es = eqb (room_left es) 0

unfoldable pub no_room_for_marker : List Entry → Bool
no_room_for_marker es = eqb (room_left es) 0

-- "10 wire empty"
unfoldable pub no_entry : List Entry → Bool
no_entry [] = true
no_entry (e ∷ es) = false

-- the body of an entry received; a marker has none
abbrev pub body_of : Entry → ℕ
body_of (Message b t) = b
body_of Marker = 0

-- what receiving an entry of channel c brings
abbrev pub receipt_of : ℕ → Entry → Receipt
receipt_of c e = receipt c (body_of e)
