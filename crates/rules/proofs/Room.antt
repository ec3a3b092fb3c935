-- Where a channel has room for one more entry by the rules, its arrays have a place for it.
use Rattle.std.proofs.Common.{◌≡◌, false, List, [], ◌∷◌, ◌++◌, length, arith, lt-ltb}
use borrow.Author.Tests.{eqb-false}
use Rattle.model.specs.declared.Entry.{Entry}
use Rattle.model.specs.Channel.{array_places, room_left, no_room_for_message, no_room_for_marker}
use Rattle.rules.specs.Placing.{pushed}

module _ (es : List Entry) (e : Entry) where
  pub message_pushed : no_room_for_message es ≡ false → pushed es e ≡ es ++ (e ∷ [])
  unfolding no_room_for_message pushed
  message_pushed room = rw (lt-ltb (length es) array_places (omega (arith, eqb-false (room_left es) 0 room)))

  pub marker_pushed : no_room_for_marker es ≡ false → pushed es e ≡ es ++ (e ∷ [])
  unfolding no_room_for_marker pushed
  marker_pushed room = rw (lt-ltb (length es) array_places (omega (arith, eqb-false (room_left es) 0 room)))
