-- The histories as the code holds them, and what they show of a channel.
use Rattle.std.specs.Prelude.{ℕ, zero, suc, ◌+◌, ◌≤◌, ◌<◌, ◌≡◌, Bool, true, cond}
use Rattle.std.specs.Prelude.{List, [], ◌∷◌, ◌++◌, get_or, length, take, drop}
use Rattle.std.specs.Bool.{beq}
use Rattle.std.specs.declared.option.Option as code
use Rattle.std.specs.declared.option.Option.TheVariants.{None, Some}
use Rattle.std.specs.Option.{is_some, unwrap_or}
use Rattle.std.proofs.Math.Option.{Option, none, some}
use Rattle.account.specs.declared.Deed.{Deed}
use Rattle.model.specs.declared.Topology.{Topology}
use Rattle.model.specs.declared.Entry.{Entry}
use Rattle.model.specs.Notation.{tabulate}
use Rattle.model.specs.History.{Event, History, sent, received, new_history, mark_unmarked, bodies_on, is_after}
use Rattle.model.specs.Topology.{sender, receiver, topology_refusal}
use Rattle.model.specs.Channel.{entry_of}
use Rattle.account.specs.Deeds.{did, on_channel}
use Rattle.account.specs.Contents.{history_of, behind, with_marker, under_way}
use Rattle.slow.specs.declared.deeds.Past as held
use Rattle.slow.specs.declared.events.Histories.{Histories}
use Rattle.slow.specs.Kept.{deed_at, past_of}

abbrev pub event_of : Deed → Event
event_of d = record { direction = cond (did 1 d) sent received; channel = d.channel; body = d.body }

-- a mark as the code holds it
abbrev pub mark_of : code.Option ℕ → Option ℕ
mark_of None = none
mark_of (Some m) = some m

abbrev pub mark_in : Histories → ℕ → code.Option ℕ
mark_in b p = get_or b.marks p None

abbrev pub has_mark_in : Histories → ℕ → Bool
has_mark_in b p = is_some (mark_in b p)

-- which deed stands at place k of p's history
abbrev pub place_in : Histories → ℕ → ℕ → ℕ
place_in b p k = get_or (get_or b.entries p []) k 0

-- with the deeds f
unfoldable pub history_seen : (ℕ → Deed) → Histories → History
history_seen f b =
    record {
      events = λ p. tabulate (get_or b.counts p 0) (λ k. event_of (f (place_in b p k)));
      line = λ p. get_or b.lines p 0;
      mark = λ p. mark_of (mark_in b p);
    }

-- every history has room for one more
abbrev pub Room : Histories → Type 0
Room b = (p : ℕ) → get_or b.counts p 0 < 256

-- no history has grown by more than one event
abbrev pub Grown : Histories → Histories → Type 0
Grown b r = (p : ℕ) → get_or r.counts p 0 ≤ get_or b.counts p 0 + 1

-- process p is marked, if it is to be and has no mark
abbrev pub mark_if : Bool → ℕ → History → History
mark_if asked p h = cond asked (mark_unmarked (h.mark p) p h) h

-- r is what b becomes by a change of the histories, whatever the deeds
pub record Becomes (b : Histories) (change : (ℕ → Deed) → History → History) (r : Histories) : Type 0 where
  pub seen : (f : ℕ → Deed) → history_seen f r ≡ change f (history_seen f b)
  pub grown : Grown b r

-- with the deeds of this past
pub record Follows (past : held.Past) (b : Histories) (change : History → History) (r : Histories) : Type 0 where
  pub seen : history_seen (deed_at past) r ≡ change (history_seen (deed_at past) b)
  pub grown : Grown b r

-- the first ones
pub record Starts (r : Histories) : Type 0 where
  pub seen : (f : ℕ → Deed) → history_seen f r ≡ new_history
  pub empty : (p : ℕ) → get_or r.counts p 0 ≡ 0

-- those that the past makes
pub record FedBy (T : Topology) (past : held.Past) (r : Histories) : Type 0 where
  pub seen : history_seen (deed_at past) r ≡ history_of T (past_of past)

-- a line of these marks
pub record Finished (lines : List ℕ) (marks : List (code.Option ℕ)) (r : List ℕ) : Type 0 where
  pub at : (p : ℕ) → get_or r p 0 ≡ unwrap_or (get_or marks p None) (get_or lines p 0)

-- a deed names a channel, or a process, of the topology
pub record Fits (T : Topology) (d : Deed) : Type 0 where
  pub sends : did 1 d ≡ true → d.channel < T.channels
  pub receives : did 2 d ≡ true → d.channel < T.channels
  pub marks : did 5 d ≡ true → d.process < T.processes

abbrev pub AllFit : Topology → List Deed → Type 0
AllFit T [] = Unit {0}
AllFit T (d ∷ ds) = Fits T d × AllFit T ds

-- deed i can be fed to the histories
pub record MayFeed (T : Topology) (past : held.Past) (b : Histories) (i : ℕ) : Type 0 where
  pub fits : Fits T (deed_at past i)
  pub good : topology_refusal T ≡ none
  pub room : Room b

-- the bodies sent, or received, on channel c among the first n events of p's history
unfoldable pub on_events : (ℕ → Deed) → Histories → ℕ → Bool → ℕ → ℕ → List ℕ
on_events f b p sends c n = bodies_on (cond sends sent received) c (tabulate n (λ k. event_of (f (place_in b p k))))

-- the kind of a message, by whether it was sent after its sender's mark
abbrev pub kind_of : Bool → Bool → ℕ
kind_of turned after = cond (beq turned after) 0 1

-- the sends on channel c among the first n places of p's history
unfoldable pub sent_by : Bool → held.Past → Histories → ℕ → ℕ → ℕ → List Entry
sent_by turned past b p c zero = []
sent_by turned past b p c (suc k) =
    let d : Deed = deed_at past (place_in b p k) in
    sent_by turned past b p c k
    ++ cond (on_channel 1 c d) (entry_of (kind_of turned (is_after (mark_of (mark_in b p)) k)) d.body ∷ []) []

-- from one to before another
abbrev pub between : ℕ → ℕ → List Entry → List Entry
between from to es = drop from (take to es)

-- entries, and after them the sends on channel c in p's history, from one to before another
abbrev pub filled : Bool → held.Past → Histories → ℕ → ℕ → ℕ → ℕ → List Entry → List Entry
filled turned past b p c from to es = es ++ between from to (sent_by turned past b p c (get_or b.counts p 0))

pub record MayFill (turned : Bool) (past : held.Past) (b : Histories) (p c from to : ℕ) (es : List Entry) : Type 0 where
  pub process : p < 16
  pub fits : length (filled turned past b p c from to es) ≤ 8

-- with the marker, if the channel holds it
abbrev pub with_marker_if : Bool → ℕ → List Entry → List Entry
with_marker_if marker n es = cond marker (with_marker n es) es

-- the entries of channel c, by the histories: t is the tag of processes without a mark
abbrev pub held_by : Topology → held.Past → Histories → Bool → Bool → ℕ → List Entry
held_by T past b t marker c =
    with_marker_if marker (behind c (past_of past)) (under_way T t (history_seen (deed_at past) b) c)

-- a channel whose ends and histories are known, and that has no more than its room
pub record Here (T : Topology) (past : held.Past) (b : Histories) (turned marker : Bool) (c : ℕ) : Type 0 where
  pub from : sender T c < 16
  pub to : receiver T c < 16
  pub fits : length (held_by T past b turned marker c) ≤ 8
