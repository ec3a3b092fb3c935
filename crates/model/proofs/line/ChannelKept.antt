-- One channel: what a send, a receive and a logical checkpoint of one of its ends make of its part of the invariant,
-- over plain values. x is the process at the end that acts.
use Prim.Native.Nat.{ℕ, ◌+◌}
use mathlib.Core.Path.{◌≡◌, refl, sym, ap, ap₂, ◌∙◌}
use mathlib.Core.Bool.{Bool, true, false, not}
use mathlib.Core.List.{List, [], ◌∷◌, ◌++◌, append_assoc}
use Rattle.model.specs.declared.Phase.{Phase}
use Rattle.model.specs.declared.Phase.TheVariants.{Idle, Physical, Logical}
use Rattle.model.specs.declared.Entry.{Entry}
use Rattle.model.specs.declared.Entry.TheVariants.{Message}
use Rattle.model.specs.Channel.{bodies, messages}
use Rattle.model.specs.History.{sent, received, bodies_on}
use Rattle.model.proofs.laws.Tests.{Tested, holds, fails, test}
use Rattle.model.proofs.laws.ChannelLaws.{bodies_append, messages_snoc}
use Rattle.model.proofs.laws.HistoryLaws.{before, sees, sent_on, sent_on_lem, received_on, received_on_lem}
use Rattle.model.proofs.line.Values.{Seen, Held, Process, Channel, seen_of}
use Rattle.model.proofs.line.ChannelState.{Balanced, send_old, send_new, receive_old_before, receive_old_logged}
use Rattle.model.proofs.line.ChannelState.{receive_new}
use Rattle.model.proofs.line.Counted.{Counted, exact, counted_longer, counted_before, counted_new}
use Rattle.model.proofs.line.Invariant.{tagged, Plain, LogicalChannel, ProcessHolds, ChannelIn}
use Rattle.model.proofs.line.Invariant.{ChannelHolds}
use Rattle.model.proofs.line.Books.{longer, whole, no_mark, before_longer, line_longer}
use Rattle.model.proofs.line.ProcessState.{tag_in, tag_is}

-- a channel after a send: with these entries and with this sent on it
abbrev pub sending : List Entry → Seen → Channel → Channel
sending es out v =
    record {
      entries = es;
      sent = v.sent;
      closed = v.closed;
      sender = v.sender;
      receiver = v.receiver;
      count = v.count;
      out = out;
      arrived = v.arrived;
      finished = v.finished;
      pending = v.pending;
    }

-- and after a receive; its log has `count` entries then, and the pending slot is `held`
abbrev pub leaving : List Entry → Seen → ℕ → Held → Channel → Channel
leaving es arrived count held v =
    record {
      entries = es;
      sent = v.sent;
      closed = v.closed;
      sender = v.sender;
      receiver = v.receiver;
      count = count;
      out = v.out;
      arrived = arrived;
      finished = v.finished;
      pending = held;
    }

-- the pending slot with one more entry in the channel's log
abbrev pub logged_held : ℕ → Channel → Held
logged_held b v = record { bodies = v.pending.bodies ++ (b ∷ []); count = v.count + 1 }

-- a message at the end of plain ones
plain_sent : {t : Bool} (es : List Entry) (b : ℕ) (u : Bool) → u ≡ t → es ≡ messages t (bodies es)
    → es ++ (Message b u ∷ []) ≡ messages t (bodies (es ++ (Message b u ∷ [])))
unfolding bodies
plain_sent {t} es b u e plain =
    ap₂ (λ (xs : List Entry) (y : Bool). xs ++ (Message b y ∷ [])) plain e
    ∙ sym (messages_snoc t (bodies es) b)
    ∙ ap (messages t) (sym (bodies_append es (Message b u ∷ [])))

module _ (t : Bool) (p : ℕ) (x : Process) (v : Channel) where
  module _ (c b : ℕ) where
    abbrev out' : Seen
    out' = seen_of sent c (longer (sent_on c b) x.book)

    abbrev entries' : List Entry
    entries' = v.entries ++ (Message b x.tag ∷ [])

    pub channel_sent : (ph : Phase) → ProcessHolds t ph p x → v.out ≡ seen_of sent c x.book → v.sender ≡ x.logical
        → ChannelHolds t ph v → ChannelHolds t ph (sending entries' out' v)
    unfolding seen_of bodies tagged before
    channel_sent ph a is flag i =
        record {
          now =
              sees sent c x.book.events (sent_on c b) (sent_on_lem c b)
              ∙ ap (λ (l : List ℕ). l ++ (b ∷ [])) (ap (λ (o : Seen). o.all) (sym is) ∙ i.now)
              ∙ append_assoc v.arrived.all (bodies v.entries) (b ∷ [])
              ∙ ap (λ (l : List ℕ). v.arrived.all ++ l) (sym (bodies_append v.entries (Message b x.tag ∷ [])));
          finished =
              line_longer (bodies_on sent c) x.book (sent_on c b) (whole ph a)
              ∙ ap (λ (o : Seen). o.line) (sym is) ∙ i.finished;
          fits = i.fits;
          round = round ph a (tag_is ph a) i.round;
        }
      where
        logical : ProcessHolds t Logical p x → LogicalChannel t v → Tested x.logical
            → LogicalChannel t (sending entries' out' v)
        logical a r (fails e) =
            let old : x.tag ≡ t = tag_is Logical a ∙ ap (tagged t) e in
            let grown : out'.mark ≡ v.out.mark ++ (b ∷ []) =
            rw (is, no_mark a.round.mark e) (sees sent c x.book.events (sent_on c b) (sent_on_lem c b)) in
            record {
              balanced = rw (old, grown) (send_old b (flag ∙ e) r.balanced);
              counted = counted_longer _ r.counted;
            }
        logical a r (holds e) =
            let new : x.tag ≡ not t = tag_is Logical a ∙ ap (tagged t) e in
            let same : out'.mark ≡ v.out.mark =
            ap (bodies_on sent c) (before_longer x.book.events (sent_on c b) refl a.round.mark e)
            ∙ ap (λ (o : Seen). o.mark) (sym is) in
            record {
              balanced = rw (new, same) (send_new b (flag ∙ e) r.balanced);
              counted = counted_longer _ r.counted;
            }

        round : (ph : Phase) → ProcessHolds t ph p x → x.tag ≡ tag_in t ph x.logical → ChannelIn t ph v
            → ChannelIn t ph (sending entries' out' v)
        round Idle a e r = plain_sent v.entries b x.tag e r
        round (Physical next) a e r =
            record { plain = plain_sent v.entries b x.tag e r.plain; empty = r.empty; counted = r.counted }
        round Logical a e r = logical a r (test x.logical)

  -- a message received: the first of the entries
  module _ (c b : ℕ) (u : Bool) (es : List Entry) (first : v.entries ≡ Message b u ∷ es)
      (is : v.arrived ≡ seen_of received c x.book) where
    abbrev arrived' : Seen
    arrived' = seen_of received c (longer (received_on c b) x.book)

    channel_received : (ph : Phase) (count : ℕ) (held : Held) → ProcessHolds t ph p x → ChannelHolds t ph v
        → ChannelIn t ph (leaving es arrived' count held v) → ChannelHolds t ph (leaving es arrived' count held v)
    unfolding seen_of bodies tagged before
    channel_received ph count held a i round =
        record {
          now =
              i.now
              ∙ ap₂ (λ (o : Seen) (l : List Entry). o.all ++ bodies l) is first
              ∙ sym (append_assoc (bodies_on received c x.book.events) (b ∷ []) (bodies es))
              ∙ ap (λ (l : List ℕ). l ++ bodies es)
              (sym (sees received c x.book.events (received_on c b) (received_on_lem c b)));
          finished =
              i.finished
              ∙ ap (λ (l : List ℕ). l ++ v.finished.bodies)
              (ap (λ (o : Seen). o.line) is
              ∙ sym (line_longer (bodies_on received c) x.book (received_on c b) (whole ph a)));
          fits = i.fits;
          round = round;
        }

    -- the rest of plain entries
    plain_rest : Plain t v → es ≡ messages t (bodies es)
    unfolding bodies messages
    plain_rest plain =
        let all : Message b u ∷ es ≡ messages t (bodies (Message b u ∷ es)) =
        sym first ∙ plain ∙ ap (λ (l : List Entry). messages t (bodies l)) first in cc

    pub left_idle : ProcessHolds t Idle p x → ChannelHolds t Idle v
        → ChannelHolds t Idle (leaving es arrived' v.count v.pending v)
    left_idle a i = channel_received Idle v.count v.pending a i (plain_rest i.round)

    pub left_physical : (next : ℕ) → ProcessHolds t (Physical next) p x → ChannelHolds t (Physical next) v
        → ChannelHolds t (Physical next) (leaving es arrived' v.count v.pending v)
    left_physical next a i =
        channel_received (Physical next) v.count v.pending a i
        (record { plain = plain_rest i.round.plain; empty = i.round.empty; counted = i.round.counted })

    -- in the logical phase, by whether the receiver has its logical checkpoint and whether the message is old
    module _ (a : ProcessHolds t Logical p x) (flag : v.receiver ≡ x.logical) (i : ChannelHolds t Logical v) where
      balanced : Balanced t v.sender v.receiver v.sent v.closed (Message b u ∷ es) v.pending.bodies
          v.out.mark v.arrived.mark
      balanced = rw (← first) i.round.balanced

      counted : Counted t v.receiver (Message b u ∷ es) v.count v.pending.count
      counted = rw (← first) i.round.counted

      -- what stood before the mark stands before it
      same_mark : x.logical ≡ true → arrived'.mark ≡ v.arrived.mark
      unfolding seen_of
      same_mark e =
          ap (bodies_on received c) (before_longer x.book.events (received_on c b) refl a.round.mark e)
          ∙ ap (λ (o : Seen). o.mark) (sym is)

      pub left_before : x.logical ≡ false → u ≡ t
          → ChannelHolds t Logical (leaving es arrived' v.count v.pending v)
      unfolding seen_of before
      left_before e old =
          let grown : arrived'.mark ≡ v.arrived.mark ++ (b ∷ []) =
          rw (is, no_mark a.round.mark e) (sees received c x.book.events (received_on c b) (received_on_lem c b)) in
          channel_received Logical v.count v.pending a i
          (record {
            balanced = rw grown (receive_old_before balanced old (flag ∙ e));
            counted = exact (counted_before (flag ∙ e) i.round.counted);
          })

      pub left_new : x.logical ≡ true → u ≡ not t
          → ChannelHolds t Logical (leaving es arrived' v.count v.pending v)
      left_new e new =
          channel_received Logical v.count v.pending a i
          (record {
            balanced = rw (same_mark e, flag ∙ e) (receive_new balanced new);
            counted = exact (counted_new new counted);
          })

      pub left_logged : x.logical ≡ true → u ≡ t
          → ChannelHolds t Logical (leaving es arrived' (v.count + 1) (logged_held b v) v)
      left_logged e old =
          channel_received Logical (v.count + 1) (logged_held b v) a i
          (record { balanced = rw (same_mark e) (receive_old_logged balanced old (flag ∙ e)); counted = exact refl })
