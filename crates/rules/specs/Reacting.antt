-- What the code's Reaction means: the reaction of the definitions, with its logs in their order, the channel's first.
use Rattle.std.specs.Prelude.{◌≡◌, ℕ, Bool, false, ◌++◌}
use Rattle.model.specs.declared.Phase.{Phase}
use Rattle.model.specs.declared.Receiver.{Receiver}
use Rattle.model.specs.declared.Entry.{Entry}
use Rattle.model.specs.Layout.{message_log, channel_log}
use Rattle.model.specs.Receive.{log_if, reaction_to}
use Rattle.model.specs.Receive as receive
use Rattle.rules.specs.declared.reaction.Reaction.{Reaction}

unfoldable pub view_reaction : ℕ → ℕ → Reaction → receive.Reaction
view_reaction channel receiver r =
    record {
      logical_first = r.logical_first;
      closes = r.closes;
      logs = log_if r.channel_log (channel_log channel) ++ log_if r.message_log (message_log receiver);
    }

-- the message log at most
abbrev pub logging : Bool → Reaction
logging needed = record { logical_first = false; closes = false; channel_log = false; message_log = needed }

-- x is the reaction of the receiver r to an entry, whichever channel it comes on
abbrev pub Reacts : Phase → Receiver → Entry → Reaction → Type 0
Reacts phase r e x = (channel : ℕ) → view_reaction channel r.process x ≡ reaction_to phase channel r e
