-- What a receive does by its entry's reaction, in terms of what the code has at hand, the spot: whether a log needed is
-- full, what is written, and what becomes of the receiver's word.
use Rattle.std.specs.Prelude.{◌≡◌, ℕ, ◌+◌, ◌<◌, ◌≤◌, Bool, cond, not, ◌&&◌, ◌||◌, List, ◌++◌, drop, nat_le}
use mir.Val.{bool_byte}
use Rattle.model.specs.declared.Receipt.{Receipt}
use Rattle.model.specs.declared.Receiver.{Receiver}
use Rattle.model.specs.declared.Entry.{Entry}
use Rattle.model.specs.declared.Entry.TheVariants.{Message, Marker}
use Rattle.model.specs.Notation.{bit_of}
use Rattle.model.specs.Word.{receipt, enter}
use Rattle.model.specs.Topology.{process_limit, channel_limit}
use Rattle.model.specs.Channel.{entries}
use Rattle.model.specs.Layout.{Log, message_log, channel_log, message_places, channel_places, count_cell, entry_for}
use Rattle.model.specs.Write.{Write}
use Rattle.rules.specs.declared.reaction.Reaction.{Reaction}
use Rattle.engine.specs.declared.spot.Spot.{Spot}
use Rattle.engine.specs.Spent.{append_if}

-- what a spot has of a sound state: its channel and its receiver are in the arrays, and the logs' counts are no larger
-- than the places that they count
pub record Fits (s : Spot) : Type 0 where
  pub channel : s.channel < channel_limit
  pub receiver : s.process < process_limit
  pub in_channel : s.in_channel ≤ channel_places
  pub in_messages : s.in_messages ≤ message_places

-- the receiver
abbrev pub receiver_of : Spot → Receiver
receiver_of s =
    record {
      process = s.process;
      late = bit_of s.late s.process;
      logical = s.logical;
      saved = s.saved;
      tag = s.tag;
    }

-- whether a log that the reaction needs is full
abbrev pub full_for : Reaction → Spot → Bool
full_for x s =
    (x.channel_log && nat_le channel_places s.in_channel)
    || (x.message_log && nat_le message_places s.in_messages)

-- what a receipt writes into the logs that the reaction needs, for the line after this one
abbrev pub into_log : Bool → Spot → Log → ℕ → Receipt → List Write
into_log needed s log count r = append_if needed (count_cell (s.round.line + 1) log) count (entry_for log r)

abbrev pub receipt_writes : Reaction → Spot → Receipt → List Write
receipt_writes x s r =
    into_log x.channel_log s (channel_log s.channel) s.in_channel r
    ++ into_log x.message_log s (message_log s.process) s.in_messages r

unfoldable pub word_after : ℕ → Entry → ℕ → ℕ
word_after c (Message b t) word = enter word (receipt c b)
word_after c Marker word = word

-- what the spot n has after an entry was received: a log's count is raised, and a tag turned over, where that is so
pub record Received (s : Spot) (e : Entry) (x : Reaction) (n : Spot) : Type 0 where
  pub round : n.round ≡ s.round
  pub held : entries n.held ≡ drop 1 (entries s.held)
  pub word : n.word ≡ word_after s.channel e s.word
  pub tag : n.tag ≡ cond x.logical_first (not s.tag) s.tag
  pub logical : n.logical ≡ (s.logical || x.logical_first)
  pub saved : n.saved ≡ s.saved
  pub closed : n.closed ≡ (s.closed || x.closes)
  pub sent : n.sent ≡ s.sent
  pub in_channel : n.in_channel ≡ s.in_channel + bool_byte x.channel_log
  pub in_messages : n.in_messages ≡ s.in_messages + bool_byte x.message_log
