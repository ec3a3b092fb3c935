-- How many entries each log has, as the past tells it. "setup, restart and begin make [every log's count] 0": receives
-- since then count, by the stores they made. An entry of a board log takes 3 of them (M-101: body, wire, count), one of
-- a wire log 2, and M-105 has receives that go into both.
use Rattle.std.specs.Prelude.{ℕ, Bool, ◌&&◌, ◌||◌, eqb}
use Rattle.model.specs.declared.Topology.{Topology}
use Rattle.model.specs.Topology.{receiver}
use Rattle.account.specs.declared.Deed.{Deed}
use Rattle.account.specs.Deeds.{Past, number, since, did}

-- the stores of an entry of one of these logs, or of both
abbrev pub makes : ℕ → Deed → Bool
makes n d = eqb d.made n || eqb d.made 5

abbrev pub clears : Deed → Bool
clears d = did 3 d || did 9 d

unfoldable pub since_clear : Past → Past
since_clear past = since clears past

abbrev pub logs_message : Topology → ℕ → Deed → Bool
logs_message T p d = did 2 d && makes 3 d && eqb (receiver T d.channel) p

unfoldable pub messages_logged : Topology → ℕ → Past → ℕ
messages_logged T p past = number (logs_message T p) (since_clear past)

abbrev pub logs_on_channel : ℕ → Deed → Bool
logs_on_channel c d = did 2 d && makes 2 d && eqb d.channel c

unfoldable pub channel_logged : ℕ → Past → ℕ
channel_logged c past = number (logs_on_channel c) (since_clear past)
