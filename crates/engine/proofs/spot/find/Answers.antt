-- `engine::spot::find`: a send and a marker are about their channel's sender, a receive about its receiver.
use Rattle.std.proofs.Common.{rules}
use Rattle.model.specs.Topology.{sender, receiver, has_channel}
use Rattle.engine.proofs.spot.find.Goals as goal

pub returns-in-Send : goal.returns-in-Send
unfolding has_channel sender
returns-in-Send c = search rules

pub returns-in-Receive : goal.returns-in-Receive
unfolding has_channel receiver
returns-in-Receive c = search rules

pub returns-in-SendMarker : goal.returns-in-SendMarker
unfolding has_channel sender
returns-in-SendMarker c = search rules
