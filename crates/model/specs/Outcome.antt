-- What an answer says, in document 01's words and numbers, and what each case of the enums that the code answers with
-- says. Definitions speak of what is said, and every public promise about such an enum goes through what its case says.
use Rattle.std.specs.Prelude.{ℕ, List, [], ◌∷◌, Result, Ok, Err}
use Rattle.std.proofs.Math.Option.{Option, none, some}
use Rattle.model.specs.declared.Outcome.{Outcome}
use Rattle.model.specs.declared.Outcome.TheVariants as outcome
use Rattle.model.specs.declared.Refusal.{Refusal}
use Rattle.model.specs.declared.Refusal.TheVariants.{ProcessCount, ChannelCount, UnknownEnd, SelfChannel}
use Rattle.model.specs.declared.Refusal.TheVariants.{DoubledChannel, ShortStore, Malformed, NoSuch, ChannelFull}
use Rattle.model.specs.declared.Refusal.TheVariants.{ChannelEmpty, LogFull, NotNow, LastLine, MarkerOnClosed}
use Rattle.model.specs.declared.Refusal.TheVariants.{Unsound, BadCount, NothingRefused, LongList, UnknownLate}

-- "Outcomes: `done`; `took` and body; `note`; `line` and its number for a restart; `refused` and number", and "cut";
-- document 02, M-104: "`sent`, that count"
pub data Said : Type 0 where
  done : Said
  sent : ℕ → Said
  took : ℕ → Said
  note : Said
  line : ℕ → Said
  refused : ℕ → Said
  cut : Said

-- the values that are said
unfoldable pub said_values : Said → List ℕ
said_values done = []
said_values (sent room) = room ∷ []
said_values (took body) = body ∷ []
said_values note = []
said_values (line k) = k ∷ []
said_values (refused n) = n ∷ []
said_values cut = []

-- "Turned down, by who causes it": document 01's number of each refusal of the code
abbrev pub refusal_number : Refusal → ℕ
refusal_number ProcessCount = 1
refusal_number ChannelCount = 2
refusal_number UnknownEnd = 3
refusal_number SelfChannel = 4
refusal_number DoubledChannel = 5
refusal_number ShortStore = 6
refusal_number Malformed = 7
refusal_number NoSuch = 8
refusal_number ChannelFull = 9
refusal_number ChannelEmpty = 10
refusal_number LogFull = 11
refusal_number NotNow = 12
refusal_number LastLine = 13
refusal_number MarkerOnClosed = 14
refusal_number Unsound = 15
refusal_number BadCount = 16
-- document 02, M-100: "18, the list is longer than 256", "17, no step is refused"
refusal_number NothingRefused = 17
refusal_number LongList = 18
-- M-105: "19, a late bit for a board not in the plan"
refusal_number UnknownLate = 19

-- what a step's outcome says
abbrev pub said_by : Outcome → Said
said_by outcome.Done = done
said_by (outcome.Sent room) = sent room
said_by (outcome.Received body) = took body
said_by outcome.ReceivedMarker = note
said_by (outcome.Refused r) = refused (refusal_number r)
said_by outcome.PowerLost = cut

-- the number that is said, where it is a refusal's
unfoldable pub refused_with : Said → Option ℕ
refused_with done = none
refused_with (sent room) = none
refused_with (took body) = none
refused_with note = none
refused_with (line k) = none
refused_with (refused n) = some n
refused_with cut = none

-- how much room it says is left, where it is a send's answer; 0 where not
abbrev pub room_said : Said → ℕ
room_said done = 0
room_said (sent room) = room
room_said (took body) = 0
room_said note = 0
room_said (line k) = 0
room_said (refused n) = 0
room_said cut = 0

-- the number that a check, an initialize or a recover refuses with, if it does
unfoldable pub refusal_of : {A : Type 0} → Result A Refusal → Option ℕ
refusal_of (Ok x) = none
refusal_of (Err r) = some (refusal_number r)
