-- What the round under way has done, as the past tells it: channels that are closed, markers that were sent, late
-- processes that have their physical checkpoint. Which processes have their logical one, their marks tell
-- (Contents.antt).
use Rattle.std.specs.Prelude.{ℕ, Bool, ◌&&◌, eqb}
use Rattle.model.specs.declared.Topology.{Topology}
use Rattle.model.specs.Topology.{is_late}
use Rattle.account.specs.declared.Deed.{Deed}
use Rattle.account.specs.Deeds.{Past, any, did, on_channel}
use Rattle.account.specs.Round.{this_round}

-- a channel is closed by a marker (note) received on it in this round
abbrev pub receives_marker : ℕ → Deed → Bool
receives_marker c d = did 2 d && d.marker && eqb d.channel c

unfoldable pub closed_in : ℕ → Past → Bool
closed_in c past = any (receives_marker c) (this_round past)

-- its marker was sent where one was sent on it in this round
unfoldable pub marker_sent : ℕ → Past → Bool
marker_sent c past = any (on_channel 6 c) (this_round past)

-- document 02, M-105, of a late board: "It may copy once marked, one time in a round"
abbrev pub copies : ℕ → Deed → Bool
copies p d = did 4 d && eqb d.process p

unfoldable pub saved_in : Topology → ℕ → Past → Bool
saved_in T p past = is_late T p && any (copies p) (this_round past)
