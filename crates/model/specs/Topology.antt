-- Document 01's plan, with document 02's late processes (M-105), and "The plan's author": refusals 1 to 5 and 19.
use Rattle.std.specs.Prelude.{ℕ, ◌/◌, ◌^◌, Bool, cond, not, ◌&&◌, List, [], ◌∷◌, get_or, leb, ltb, eqb}
use Rattle.std.proofs.Math.Option.{Option, none, some, or_else}
use Rattle.model.specs.declared.Topology.{Topology}
use Rattle.model.specs.Notation.{all_below, first_below, bit_of}
use Rattle.model.specs.Check.{Check, ◌gives◌, first_refusal}

-- "a plan has 1 to 16" boards, and "0 to 64" wires
abbrev pub process_limit : ℕ
process_limit = 16

abbrev pub channel_limit : ℕ
channel_limit = 64

-- "Each runs from one board to another"
unfoldable pub sender : Topology → ℕ → ℕ
sender T c = get_or T.from c 0

unfoldable pub receiver : Topology → ℕ → ℕ
receiver T c = get_or T.to c 0

-- "no such board or wire", by the plan
unfoldable pub has_process : Topology → ℕ → Bool
has_process T p = ltb p T.processes

unfoldable pub has_channel : Topology → ℕ → Bool
has_channel T c = ltb c T.channels

-- Document 02, M-105: "A plan gains a 16-bit map [..] of late boards." A process that isn't late is early.
unfoldable pub is_late : Topology → ℕ → Bool
is_late T p = bit_of T.late p

-- the first early process from `from` on, by the number of processes and the map: "A late board is passed over in
-- copying"
unfoldable pub first_early : (processes late from : ℕ) → Option ℕ
first_early processes late from = first_below processes (λ p. cond (leb from p && not (bit_of late p)) (some p) none)

-- two channels with the same ends in the same direction
unfoldable pub same_ends : Topology → ℕ → ℕ → Bool
same_ends T d c = eqb (sender T d) (sender T c) && eqb (receiver T d) (receiver T c)

-- "Then per wire: 3 an end not in the plan; 4 both ends one board; 5 an earlier wire has the same ends in the same
-- direction."
abbrev pub channel_checks : Topology → ℕ → List Check
channel_checks T c =
    (not (has_process T (sender T c) && has_process T (receiver T c)) gives 3)
    ∷ (eqb (sender T c) (receiver T c) gives 4)
    ∷ (not (all_below c (λ d. not (same_ends T d c))) gives 5)
    ∷ []

unfoldable pub channel_refusal : Topology → ℕ → Option ℕ
channel_refusal T c = first_refusal (channel_checks T c)

-- "1 boards not 1 to 16. 2 over 64 wires."
abbrev pub size_checks : ℕ → ℕ → List Check
size_checks processes channels =
    (not (leb 1 processes && leb processes process_limit) gives 1) ∷ (ltb channel_limit channels gives 2) ∷
    []

unfoldable pub size_refusal : ℕ → ℕ → Option ℕ
size_refusal processes channels = first_refusal (size_checks processes channels)

-- 3 to 5 channel by channel: the first channel that offends decides
unfoldable pub channels_refusal : Topology → Option ℕ
channels_refusal T = first_below T.channels (channel_refusal T)

-- Document 02, M-105: "19, a late bit for a board not in the plan, after 5". The map without its lowest bits, as many
-- as there are processes, is 0 just where no other bit stands (LateBits).
unfoldable pub late_refusal : Topology → Option ℕ
late_refusal T = first_refusal ((not (eqb (T.late / 2 ^ T.processes) 0) gives 19) ∷ [])

-- 1 and 2, then 3 to 5, then 19
unfoldable pub topology_refusal : Topology → Option ℕ
topology_refusal T =
    or_else (size_refusal T.processes T.channels) (or_else (channels_refusal T) (late_refusal T))
