-- The round, as the past tells it: the last line finished, the phase, and the tag of processes without a mark.
use Rattle.std.specs.Prelude.{ℕ, zero, suc, ◌+◌, ◌-◌, Bool, false, cond, not, ◌&&◌, ◌||◌, [], ◌∷◌}
use Rattle.model.specs.declared.Topology.{Topology}
use Rattle.model.specs.declared.Phase.{Phase}
use Rattle.model.specs.declared.Phase.TheVariants.{Idle, Physical, Logical}
use Rattle.model.specs.Topology.{is_late}
use Rattle.account.specs.declared.Deed.{Deed}
use Rattle.account.specs.Deeds.{Past, number, since, did, ends}

-- "k being the last finished": the number of commits
unfoldable pub line_of : Past → ℕ
line_of past = number (did 7) past

-- "boards in rising order"; document 02, M-105: "A late board is passed over in copying; if all are late, begin starts
-- marking": of the n processes from p on, the first early one is next
unfoldable pub next_of : Topology → ℕ → ℕ → Phase
next_of T zero p = Logical
next_of T (suc n) p = cond (is_late T p) (next_of T n (p + 1)) (Physical p)

unfoldable pub copying_from : Topology → ℕ → Phase
copying_from T p = next_of T (T.processes - p) p

-- a physical checkpoint (copy) that moves the phase on: a late process's doesn't
abbrev pub advances : Topology → Deed → Bool
advances T d = did 4 d && not (is_late T d.process)

-- The phase: the latest begin, copy of an early process, or end of a round decides.
abbrev pub phase_after : Topology → Deed → Phase → Phase
phase_after T d before =
    cond (did 3 d) (copying_from T 0)
    (cond (advances T d) (copying_from T (d.process + 1)) (cond (ends d) Idle before))

unfoldable pub phase_of : Topology → Past → Phase
phase_of T [] = Idle
phase_of T (d ∷ ds) = phase_after T d (phase_of T ds)

-- The tag of processes without a mark: it turns over with each commit, since every process was marked by then, and is 0
-- after an abort or recover.
abbrev pub turned_after : Deed → Bool → Bool
turned_after d before = cond (did 7 d) (not before) (cond (did 8 d || did 9 d) false before)

unfoldable pub turned : Past → Bool
turned [] = false
turned (d ∷ ds) = turned_after d (turned ds)

-- this round so far: since the latest begin or end of a round
abbrev pub starts_or_ends : Deed → Bool
starts_or_ends d = did 3 d || ends d

unfoldable pub this_round : Past → Past
this_round past = since starts_or_ends past
