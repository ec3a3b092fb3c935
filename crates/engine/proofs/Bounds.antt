-- What a sound state says of the code's numbers: its processes and channels, and the ends of its channels, are within
-- the arrays.
use Rattle.std.proofs.Common.{◌≡◌, ℕ, ◌<◌, true, get_or, arith}
use mathlib.Core.Option.{none}
use Rattle.model.specs.declared.State.{State}
use Rattle.model.specs.Topology.{process_limit, channel_limit, sender, receiver, topology_refusal}
use Rattle.model.specs.State.{view}
use Rattle.model.specs.Sound.{sound}
use Rattle.model.proofs.laws.SoundLaws.{Sound, sound_facts}
use Rattle.model.proofs.laws.TopologyLaws.{SizesFit, accepted_sizes, sender_planned, receiver_planned}

module _ (s : State) (h : sound (view s) ≡ true) where
  facts : Sound (view s)
  facts = sound_facts (view s) h

  accepted : topology_refusal s.topology ≡ none
  unfolding view
  accepted = facts.topology

  pub sizes_fit : SizesFit s.topology.processes s.topology.channels
  sizes_fit = accepted_sizes s.topology accepted

  -- a planned channel: its index, and those of its ends
  module _ (c : ℕ) (l : c < s.topology.channels) where
    pub channel_bound : c < channel_limit
    channel_bound = omega (arith, sizes_fit.channels)

    pub sender_bound : get_or s.topology.from c 0 < process_limit
    unfolding sender
    sender_bound = omega (arith, sender_planned s.topology accepted c l, sizes_fit.processes)

    receiver_below : get_or s.topology.to c 0 < s.topology.processes
    unfolding receiver
    receiver_below = receiver_planned s.topology accepted c l

    pub receiver_bound : get_or s.topology.to c 0 < process_limit
    receiver_bound = omega (arith, receiver_below, sizes_fit.processes)
