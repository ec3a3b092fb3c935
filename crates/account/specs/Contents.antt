-- "Each time it works out words and messages from the books": the histories, fed what was done, and what they and the
-- past tell of each channel. The books are document 01's own, those of demand 3 (model's specs/History.antt); no step
-- of the first account asks them.
use Rattle.std.specs.Prelude.{ℕ, ◌+◌, ◌-◌, Bool, true, false, cond, not, ◌&&◌, List, [], ◌∷◌, ◌++◌, length, take, drop}
use Rattle.std.proofs.Math.Option.{Option, none, some}
use Rattle.model.specs.declared.Topology.{Topology}
use Rattle.model.specs.declared.Entry.{Entry}
use Rattle.model.specs.declared.Entry.TheVariants.{Message, Marker}
use Rattle.model.specs.Topology.{sender, receiver}
use Rattle.model.specs.History.{Event, History, new_history, add_event, mark_now, mark_unmarked, on_message, on_commit}
use Rattle.model.specs.History.{no_marks, on_recover, is_on, bodies_on, is_after}
use Rattle.model.specs.History as histories
use Rattle.account.specs.declared.Deed.{Deed}
use Rattle.account.specs.Deeds.{Past, number, since, did, on_channel}
use Rattle.account.specs.Round.{turned}
use Rattle.account.specs.Progress.{closed_in, marker_sent}

-- "Take giving a body", "Take giving a note"
unfoldable pub on_receipt : Topology → Deed → History → History
on_receipt T d h =
    let p : ℕ = receiver T d.channel in
    cond d.marker (mark_unmarked (h.mark p) p h) (on_message T d.channel d.body h)

-- what a deed does to the histories, as document 01's "The books" has it
unfoldable pub on_deed : Topology → Deed → History → History
on_deed T d h =
    cond (did 1 d)
    (add_event (sender T d.channel) (record { direction = histories.sent; channel = d.channel; body = d.body }) h)
    (cond (did 2 d) (on_receipt T d h)
    (cond (did 5 d) (mark_now d.process h)
    (cond (did 7 d) (on_commit h)
    (cond (did 8 d) (no_marks h)
    (cond (did 9 d) (on_recover h) h)))))

unfoldable pub history_of : Topology → Past → History
history_of T [] = new_history
history_of T (d ∷ ds) = on_deed T d (history_of T ds)

unfoldable pub has_mark : Option ℕ → Bool
has_mark none = false
has_mark (some m) = true

-- "Marking turns the board's tag over"; "the entry gets the sender's tag"
unfoldable pub turned_by : Bool → Bool → Bool
turned_by t false = t
turned_by t true = not t

-- The sends on channel c in a history, from place n on, as messages: t is the tag of processes without a mark, and
-- those after the mark were sent with the other.
unfoldable pub sends : Bool → Option ℕ → ℕ → ℕ → List Event → List Entry
sends t mark c n [] = []
sends t mark c n (e ∷ es) =
    cond (is_on histories.sent c e) (Message e.body (turned_by t (is_after mark n)) ∷ sends t mark c (n + 1) es)
    (sends t mark c (n + 1) es)

-- what was sent on channel c and not received, "first in first out"
unfoldable pub under_way : Topology → Bool → History → ℕ → List Entry
under_way T t h c =
    let p : ℕ = sender T c in
    drop (length (bodies_on histories.received c (h.events (receiver T c)))) (sends t (h.mark p) c 0 (h.events p))

-- how many messages were sent on channel c after its marker, where it holds one: the marker stands before them
unfoldable pub behind : ℕ → Past → ℕ
behind c past = number (on_channel 1 c) (since (on_channel 6 c) past)

unfoldable pub with_marker : ℕ → List Entry → List Entry
with_marker n es = take (length es - n) es ++ (Marker ∷ drop (length es - n) es)

-- whether channel c holds a marker: one was sent on it in this round, and none received
abbrev pub holds_marker : ℕ → Past → Bool
holds_marker c past = marker_sent c past && not (closed_in c past)

-- the entries of channel c, by the histories h
unfoldable pub channel_by : Topology → Past → History → ℕ → List Entry
channel_by T past h c =
    let es : List Entry = under_way T (turned past) h c in
    cond (holds_marker c past) (with_marker (behind c past) es) es
