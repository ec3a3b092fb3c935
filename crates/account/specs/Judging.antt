-- What the next call is answered in the state that the past tells, with full current: document 01's "Turned down" read
-- number by number, then what each step says and how many stores it makes. A call is its fields, with its kind "1 to 9,
-- as numbered above". Of the first account nothing is used but its names for things: a state, a plan, an answer. (A
-- state that is told is sound, its plan was accepted, and there is no store: 15, 6, a restart's 1 to 5 and 19, and 16
-- don't come up.)
use Rattle.std.specs.Prelude.{ℕ, ◌+◌, ◌-◌, Bool, true, false, cond, not, ◌&&◌, ◌||◌, List, [], ◌∷◌, length, leb, ltb}
use Rattle.std.specs.Prelude.{eqb}
use Rattle.std.specs.Bool.{beq}
use Rattle.std.proofs.Math.Option.{Option, none, some}
use Rattle.model.specs.declared.Phase.{Phase}
use Rattle.model.specs.declared.Phase.TheVariants.{Idle, Physical, Logical}
use Rattle.model.specs.declared.Entry.{Entry}
use Rattle.model.specs.declared.Entry.TheVariants.{Message, Marker}
use Rattle.model.specs.Notation.{all_below}
use Rattle.model.specs.Outcome.{Said, done, sent, took, note, line, refused}
use Rattle.model.specs.Topology.{sender, receiver, is_late}
use Rattle.model.specs.State.{GlobalState}
use Rattle.model.specs.Record.{Fields}
use Rattle.model.specs.Run.{Call, Reply}
use Rattle.account.specs.Deeds.{fields_for}
use Rattle.account.specs.declared.NeededLogs.{NeededLogs}

abbrev pub is : ℕ → Fields → Bool
is k f = eqb f.kind k

-- "send uses wire and body; take and note wire; copy and mark board"
abbrev pub uses_channel : Fields → Bool
uses_channel f = is 1 f || is 2 f || is 6 f

abbrev pub uses_process : Fields → Bool
uses_process f = is 4 f || is 5 f

-- 8 "no such board or wire"
unfoldable pub no_such : GlobalState → Fields → Bool
no_such s f =
    cond (uses_channel f) (leb s.topology.channels f.channel)
    (uses_process f && leb s.topology.processes f.process)

-- "A round is idle, copying or marking": which it is, and whose turn it is to be copied
abbrev pub in_idle : Phase → Bool
in_idle Idle = true
in_idle (Physical next) = false
in_idle Logical = false

abbrev pub in_logical : Phase → Bool
in_logical Idle = false
in_logical (Physical next) = false
in_logical Logical = true

abbrev pub is_next : Phase → ℕ → Bool
is_next Idle p = false
is_next (Physical next) p = eqb p next
is_next Logical p = false

-- "Copy board: in copying, boards in rising order."; document 02, M-105, of a late one: "It may copy once marked, one
-- time in a round"
unfoldable pub physical_now : GlobalState → ℕ → Bool
physical_now s p =
    cond (is_late s.topology p)
    (in_logical s.round.phase && s.progress.logical p && not (s.progress.saved p))
    (is_next s.round.phase p)

-- "Mark board: in marking, not yet marked, and board 0 before the rest."
unfoldable pub logical_now : GlobalState → ℕ → Bool
logical_now s p =
    in_logical s.round.phase && not (s.progress.logical p) && (eqb p 0 || s.progress.logical 0)

-- "Note wire: in marking, sender marked, no note put on this wire this round."
unfoldable pub marker_now : GlobalState → ℕ → Bool
marker_now s c =
    in_logical s.round.phase && s.progress.logical (sender s.topology c) && not (s.progress.sent c)

-- "Finish: in marking, every board marked, every wire closed."; M-105, of a late one's copy: "finish waits for it"
unfoldable pub ready : GlobalState → ℕ → Bool
ready s p = s.progress.logical p && (not (is_late s.topology p) || s.progress.saved p)

unfoldable pub commit_now : GlobalState → Bool
commit_now s =
    in_logical s.round.phase && all_below s.topology.processes (ready s)
    && all_below s.topology.channels s.progress.closed

-- 12 "not now, by the conditions above"; "Begin: idle only.", "Give up: copying or marking."
unfoldable pub not_now : GlobalState → Fields → Bool
not_now s f =
    cond (is 3 f) (not (in_idle s.round.phase))
    (cond (is 4 f) (not (physical_now s f.process))
    (cond (is 5 f) (not (logical_now s f.process))
    (cond (is 6 f) (not (marker_now s f.channel))
    (cond (is 7 f) (not (commit_now s)) (is 8 f && in_idle s.round.phase)))))

-- 13 "begin with k = 4,294,967,295"
unfoldable pub no_line_left : GlobalState → Fields → Bool
no_line_left s f = is 3 f && eqb s.round.line 4294967295

-- 10 "wire empty"
unfoldable pub nothing_there : GlobalState → Fields → Bool
nothing_there s f = is 2 f && eqb (length (s.channel f.channel)) 0

-- the first entry on channel c; where there is none, which 10 refuses before anything is asked of it, a message
abbrev pub first_of : List Entry → Entry
first_of [] = Message 0 false
first_of (e ∷ es) = e

unfoldable pub first_on : GlobalState → ℕ → Entry
first_on s c = first_of (s.channel c)

abbrev pub is_marker : Entry → Bool
is_marker (Message b t) = false
is_marker Marker = true

-- 14 "in marking, a note taken on a closed wire"
unfoldable pub closed_before : GlobalState → Fields → Bool
closed_before s f =
    is 2 f && in_logical s.round.phase && is_marker (first_on s f.channel) && s.progress.closed f.channel

-- 9 "wire holds 8 entries"
unfoldable pub no_room : GlobalState → Fields → Bool
no_room s f = (is 1 f || is 6 f) && leb 8 (length (s.channel f.channel))

-- Which logs a message goes into, by its receiver p: whether p is late, has its logical checkpoint and, being late, its
-- physical one of this round, and whether the message's tag differs from p's.
unfoldable pub message_log_needed : Phase → ℕ → (late logical saved differs : Bool) → Bool
message_log_needed Idle p late logical saved differs = false
-- "In copying, a copied receiver logs the body in its board log": early ones are copied in rising order
message_log_needed (Physical next) p late logical saved differs = ltb p next && not late
-- "With equal tags, an unmarked receiver logs in its board log"
message_log_needed Logical p false logical saved differs = not logical && not differs
-- M-105: "Its takes before the mark go into no log. Between mark and copy, the take that marks it included, every
-- message taken is logged in its board log"
message_log_needed Logical p true logical saved differs = (logical || differs) && not saved

-- "With a different tag, a marked receiver logs in the wire log"
unfoldable pub channel_log_needed : Phase → (logical differs : Bool) → Bool
channel_log_needed phase logical differs = in_logical phase && logical && differs

unfoldable pub logs_of : GlobalState → ℕ → Entry → NeededLogs
logs_of s p Marker = record { message = false; channel = false }
logs_of s p (Message b t) =
    let differs : Bool = not (beq t (s.tag p)) in
    let logical : Bool = s.progress.logical p in
    record {
      message = message_log_needed s.round.phase p (is_late s.topology p) logical (s.progress.saved p) differs;
      channel = channel_log_needed s.round.phase logical differs;
    }

-- those that a receive needs
unfoldable pub logs_needed : GlobalState → ℕ → NeededLogs
logs_needed s c = logs_of s (receiver s.topology c) (first_on s c)

-- 11 "the log needed is full": 8 places of a wire log, 64 of a board log
unfoldable pub log_full : GlobalState → Fields → Bool
log_full s f =
    is 2 f
    && (((logs_needed s f.channel).channel && leb 8 (s.counts.channels f.channel))
    || ((logs_needed s f.channel).message && leb 64 (s.counts.messages (receiver s.topology f.channel))))

-- "Order for steps: 15, 6, 8, 12, 13, 10, 14, 9, 11."
unfoldable pub turned_down : GlobalState → Fields → Option ℕ
turned_down s f =
    cond (no_such s f) (some 8)
    (cond (not_now s f) (some 12)
    (cond (no_line_left s f) (some 13)
    (cond (nothing_there s f) (some 10)
    (cond (closed_before s f) (some 14) (cond (no_room s f) (some 9) (cond (log_full s f) (some 11) none))))))

-- "Outcomes: `done`; `took` and body; `note`; `line` and its number for a restart"; M-104: "`sent`, that count", how
-- many entries the wire can still hold afterwards
abbrev pub received : Entry → Said
received (Message b t) = took b
received Marker = note

unfoldable pub says : GlobalState → Fields → Said
says s f =
    cond (is 1 f) (sent (8 - (length (s.channel f.channel) + 1)))
    (cond (is 2 f) (received (first_on s f.channel)) (cond (is 9 f) (line s.round.line) done))

-- "Stores, in order. Begin: 0 into the count of each planned board, rising, then of each planned wire. Copy: the word.
-- A logged take: body, then the raised count. Finish: k + 1 into cell 0. Other steps: none."; in a board log M-101
-- stores the wire too. How many there are:
unfoldable pub writes_made : GlobalState → Fields → ℕ
writes_made s f =
    cond (is 2 f) (cond (logs_needed s f.channel).channel 2 0 + cond (logs_needed s f.channel).message 3 0)
    (cond (is 3 f) (s.topology.processes + s.topology.channels) (cond (is 4 f || is 7 f) 1 0))

-- "A refusal makes 0 stores"
abbrev pub said_or : Option ℕ → Said → Said
said_or none said = said
said_or (some n) said = refused n

abbrev pub made_or : Option ℕ → ℕ → ℕ
made_or none made = made
made_or (some n) made = 0

unfoldable pub judge : GlobalState → Call → Reply
judge s c =
    let f : Fields = fields_for c in
    record {
      call = c;
      outcome = said_or (turned_down s f) (says s f);
      made = made_or (turned_down s f) (writes_made s f);
    }
