-- What an accepted topology has: its sizes are within their limits, and both ends of each channel are among its
-- processes. A log is planned where its process or channel is. What the first early process is.
use Prim.Native.Nat.{ℕ, ◌<◌, ◌≤◌}
use mathlib.Core.Path.{◌≡◌}
use mathlib.Core.Bool.{Bool, true, false, cond, not, ◌&&◌}
use mathlib.Core.Option.{Option, none, some}
use lib.Dec.{leb}
use native.Mathlib.Omega.{arith}
use borrow.Author.Tests.{ltb-true, ltb-false, leb-true, le-leb, not-false, not-true}
use Rattle.model.specs.declared.Topology.{Topology}
use Rattle.model.specs.Notation.{bit_of}
use Rattle.model.specs.Topology.{process_limit, channel_limit, sender, receiver, has_process, first_early, size_checks}
use Rattle.model.specs.Topology.{channel_refusal, channels_refusal, size_refusal, late_refusal, topology_refusal}
use Rattle.model.specs.Layout.{Log, message_log, channel_log}
use Rattle.model.proofs.laws.Tests.{and_left, and_right, Tested, holds, fails, test}
use Rattle.model.proofs.laws.Lists.{or_else_none, none_below, Search, found, absent, search_below}
use Rattle.model.proofs.laws.Lists.{below_none, first_at}
use Rattle.model.proofs.laws.Passing.{passed}

-- a log of the topology
abbrev pub Planned : Topology → Log → Type 0
Planned T (message_log p) = p < T.processes
Planned T (channel_log c) = c < T.channels

-- the numbers of processes and channels are within their limits
pub record SizesFit (n m : ℕ) : Type 0 where
  pub one : 1 ≤ n
  pub processes : n ≤ process_limit
  pub channels : m ≤ channel_limit

pub sizes : (processes channels : ℕ) → size_refusal processes channels ≡ none → SizesFit processes channels
unfolding size_refusal
sizes processes channels e =
    let low : Bool = leb 1 processes in
    let high : Bool = leb processes process_limit in
    let (few, (thin, _)) = passed (size_checks processes channels) e in
    let both : (low && high) ≡ true = not-false (low && high) few in
    record {
      one = leb-true 1 processes (and_left low high both);
      processes = leb-true processes process_limit (and_right low high both);
      channels = ltb-false channel_limit channels thin;
    }

module _ (T : Topology) (accepted : topology_refusal T ≡ none) where
  pub accepted_sizes : SizesFit T.processes T.channels
  unfolding topology_refusal
  accepted_sizes = sizes _ _ (or_else_none (size_refusal T.processes T.channels) _ accepted).0

  -- the ends of a channel
  module _ (c : ℕ) (l : c < T.channels) where
    ends_known : (has_process T (sender T c) && has_process T (receiver T c)) ≡ true
    unfolding topology_refusal channels_refusal channel_refusal
    ends_known =
        let (channels, _) = or_else_none (channels_refusal T) (late_refusal T) (or_else_none _ _ accepted).1 in
        not-false _ (passed _ (none_below T.channels (channel_refusal T) channels c l)).0

    pub sender_planned : sender T c < T.processes
    unfolding has_process
    sender_planned = ltb-true _ _ (and_left _ _ ends_known)

    pub receiver_planned : receiver T c < T.processes
    unfolding has_process
    receiver_planned = ltb-true _ _ (and_right (has_process T (sender T c)) _ ends_known)

-- the first early process from `from` on, if there is one: all that are passed over are late
pub data FirstEarly (processes late from : ℕ) : Option ℕ → Type 0 where
  at : {p : ℕ} → p < processes → from ≤ p → bit_of late p ≡ false → ((q : ℕ) → from ≤ q → q < p
      → bit_of late q ≡ true) → FirstEarly processes late from (some p)
  none_left : ((q : ℕ) → from ≤ q → q < processes → bit_of late q ≡ true) → FirstEarly processes late from none

pub first_early_lem : (processes late from : ℕ) → FirstEarly processes late from (first_early processes late from)
unfolding first_early
first_early_lem processes late from = go (search_below test processes)
  where
    test : ℕ → Bool
    test p = leb from p && not (bit_of late p)

    passed_over : (q : ℕ) → from ≤ q → test q ≡ false → bit_of late q ≡ true
    passed_over q l e = not-false (bit_of late q) (rw (le-leb from q l) at e)

    go : {o : Option ℕ} → Search test processes o → FirstEarly processes late from o
    go (found {p} l e h) =
        at l (leb-true from p (and_left _ _ e)) (not-true (bit_of late p) (and_right (leb from p) _ e))
        (λ q a b. passed_over q a (h q b))
    go (absent h) = none_left (λ q a b. passed_over q a (h q b))

-- and back, as a loop that goes up from `from` finds it
module _ (processes late from p : ℕ) (passed_over : (q : ℕ) → from ≤ q → q < p → bit_of late q ≡ true) where
  abbrev candidate : ℕ → Option ℕ
  candidate q = cond (leb from q && not (bit_of late q)) (some q) none

  not_before : (q : ℕ) → q < p → candidate q ≡ none
  not_before q l = go (test (leb from q))
    where
      go : Tested (leb from q) → candidate q ≡ none
      go (holds e) = rw (e, passed_over q (leb-true from q e) l)
      go (fails e) = rw e

  pub early_at : from ≤ p → p < processes → bit_of late p ≡ false → first_early processes late from ≡ some p
  unfolding first_early
  early_at a b e =
      first_at processes p candidate p b (below_none p candidate not_before) (rw (le-leb from p a, e))

  pub early_none : processes ≤ p → first_early processes late from ≡ none
  unfolding first_early
  early_none l = below_none processes candidate (λ q k. not_before q (omega arith))
