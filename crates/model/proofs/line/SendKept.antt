-- A send keeps the invariant: the sender's history has it, and its channel.
use Prim.Native.Nat.{ℕ, ◌<◌}
use mathlib.Core.Path.{refl}
use mathlib.Core.List.{List, [], ◌∷◌, ◌++◌}
use Rattle.model.specs.declared.Entry.{Entry}
use Rattle.model.specs.declared.Entry.TheVariants.{Message}
use Rattle.model.specs.declared.Step.TheVariants.{Send}
use Rattle.model.specs.Topology.{sender, receiver}
use Rattle.model.specs.State.{GlobalState}
use Rattle.model.specs.Change.{set_entries, with_channel}
use Rattle.model.specs.Write.{write_all}
use Rattle.model.specs.Step.{effect, quietly}
use Rattle.model.specs.History.{Event, History, sent, received, add_event, on_step, on_accepted}
use Rattle.model.proofs.laws.Functions.{by_index, upd_same, upd_other}
use Rattle.model.proofs.laws.HistoryLaws.{sent_on, sent_elsewhere, send_is_no_receive}
use Rattle.model.proofs.line.Values.{process_at, channel_at}
use Rattle.model.proofs.line.Invariant.{ProcessHolds, ChannelHolds, EndsPlanned, Inv, KeepsBy}
use Rattle.model.proofs.line.Books.{whole, book_added, book_added_other, seen_added}
use Rattle.model.proofs.line.ProcessState.{process_sent}
use Rattle.model.proofs.line.ChannelKept.{channel_sent}

module _ (s : GlobalState) (st : List ℕ) (h : History) (c b : ℕ) (l : c < s.topology.channels)
    (ends : EndsPlanned s.topology) (i : Inv s st h) where
  abbrev a : ℕ
  a = sender s.topology c

  abbrev event : Event
  event = sent_on c b

  abbrev longer : List Entry
  longer = s.channel c ++ (Message b (s.tag a) ∷ [])

  abbrev after : GlobalState
  after = set_entries c longer s

  processes : (q : ℕ) → q < s.topology.processes
      → ProcessHolds i.tag s.round.phase q (process_at after st (add_event a event h) q)
  unfolding set_entries with_channel
  processes =
      by_index (λ q. q < s.topology.processes
      → ProcessHolds i.tag s.round.phase q (process_at after st (add_event a event h) q)) a
      (λ k. rw (book_added h a event) (process_sent s.round.phase c b (i.processes a k)))
      (λ q n k. rw (book_added_other h a event q n) (i.processes q k))

  channels : (d : ℕ) → d < s.topology.channels
      → ChannelHolds i.tag s.round.phase (channel_at after st (add_event a event h) d)
  unfolding set_entries with_channel
  channels =
      by_index
      (λ d. d < s.topology.channels → ChannelHolds i.tag s.round.phase
      (channel_at after st (add_event a event h) d)) c
      (λ k.
      rw (
        upd_same s.channel c longer,
        book_added h a event,
        seen_added h a received c event (receiver s.topology c) (send_is_no_receive c c b)
            (whole s.round.phase (i.processes _ (ends c l).1)),
      )
      (channel_sent i.tag a (process_at s st h a) (channel_at s st h c) c b s.round.phase
      (i.processes a (ends c l).0)
      refl refl (i.channels c l)))
      (λ d n k.
      rw (
        upd_other s.channel c d longer n,
        seen_added h a sent d event (sender s.topology d) (sent_elsewhere d c b n)
            (whole s.round.phase (i.processes _ (ends d k).0)),
        seen_added h a received d event (receiver s.topology d) (send_is_no_receive d c b)
            (whole s.round.phase (i.processes _ (ends d k).1)),
      )
      (i.channels d k))

  pub send_kept : KeepsBy s st h (Send c b) (effect s (Send c b))
  unfolding effect quietly set_entries with_channel write_all on_step on_accepted
  send_kept =
      record { sized = i.sized; stored = i.stored; tag = i.tag; processes = processes; channels = channels }
