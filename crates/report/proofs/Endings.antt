-- Laws of the lines after the last request: what is printed of a session ends with them, and how many entries its
-- channels have at most.
use Prim.Native.Nat.{ℕ, zero, suc, ◌<◌, ◌≤◌, min}
use mathlib.Core.Path.{◌≡◌, ap, ◌∙◌}
use mathlib.Core.List.{List, [], ◌++◌, append_assoc}
use mathlib.Core.Option.{none}
use lib.ListN.{length, get_or}
use native.Mathlib.Nat.{mul-le-mul_right}
use native.Mathlib.Omega.{arith}
use Rattle.model.specs.declared.Entry.{Entry}
use Rattle.model.specs.declared.Places.{Places}
use Rattle.model.specs.declared.Topology.{Topology}
use Rattle.model.specs.Notation.{tabulate, concat_below}
use Rattle.model.specs.Topology.{topology_refusal}
use Rattle.model.specs.Channel.{bodies}
use Rattle.model.specs.State.{GlobalState, entries_in}
use Rattle.model.specs.Program.{Session, report}
use Rattle.model.proofs.laws.Lists.{tabulate_length, tabulate_at, concat_cong}
use Rattle.model.proofs.laws.Functions.{Indices, indices, same, other}
use Rattle.model.proofs.laws.TopologyLaws.{accepted_sizes}
use Rattle.report.specs.Appends.{Appends}
use Rattle.report.specs.TextBytes.{channel_bytes}
use Rattle.report.specs.Text.{lines_text, process_text, channel_text, output_text}
use Rattle.report.specs.Ending.{ending_text, most_entries, ending_bytes, longest_ending}
use Rattle.report.proofs.Appending.{at_most}

-- the lines of the list that f makes, by their index
lines_of : {A : Type 0} (n : ℕ) (f : ℕ → A) (d : A) (text : ℕ → A → List ℕ)
    → concat_below (length (tabulate n f)) (λ i. text i (get_or (tabulate n f) i d))
    ≡ concat_below n (λ i. text i (f i))
lines_of n f d text =
    ap (λ (k : ℕ). concat_below k (λ i. text i (get_or (tabulate n f) i d))) (tabulate_length n f)
    ∙ concat_cong n _ _ (λ i l. ap (text i) (tabulate_at n f i d l))

pub report_text : (T : Topology) (x : Session)
    → output_text (report T x) ≡ lines_text x.lines ++ ending_text T x.state
unfolding output_text report
report_text T x =
    rw (
      lines_of T.processes x.state.word 0 process_text,
      lines_of T.channels (λ c. bodies (x.state.channel c)) [] channel_text,
      append_assoc,
    )

-- none has more than the most, and the most is one's
module _ (channel : ℕ → List Entry) where
  pub each_at_most : (n i : ℕ) → i < n → length (channel i) ≤ most_entries n channel
  unfolding most_entries
  each_at_most zero i l = absurd (omega arith)
  each_at_most (suc n) i l = go (indices i n) (each_at_most n i)
    where
      go : Indices i n → (i < n → length (channel i) ≤ most_entries n channel)
          → length (channel i) ≤ most_entries (suc n) channel
      go (same e) lower = rw e (omega arith)
      go (other e) lower = let k : i < n = omega (arith, e) in omega (arith, lower k)

  pub all_at_most : (n k : ℕ) → ((i : ℕ) → i < n → length (channel i) ≤ k) → most_entries n channel ≤ k
  unfolding most_entries
  all_at_most zero k h = omega arith
  all_at_most (suc n) k h = omega (arith, all_at_most n k (λ i l. h i (omega arith)), h n (omega arith))

-- the line of one of the first n channels is no longer than the longest
module _ (places : List Places) (lengths : List ℕ) (n i : ℕ) where
  abbrev channel : ℕ → List Entry
  channel = entries_in places lengths

  pub one_channel : {b a : List ℕ} {at r : ℕ}
      → Appends (channel_bytes (length (channel i))) b at (channel_text i (bodies (channel i))) a r → i < n
      → Appends (channel_bytes (most_entries n channel)) b at (channel_text i (bodies (channel i))) a r
  one_channel t l = at_most t (omega (arith, each_at_most channel n i l))

-- those of an accepted topology are no longer than the longest
pub ending_fits : (T : Topology) (s : GlobalState) (most : ℕ) → topology_refusal T ≡ none
    → min 255 (most_entries T.channels s.channel) ≤ most → {b a text : List ℕ} {at r : ℕ}
    → Appends (ending_bytes T s) b at text a r → Appends (longest_ending most) b at text a r
ending_fits T s most accepted few t =
    let fit = accepted_sizes T accepted in
    let entries : ℕ = most_entries T.channels s.channel in
    at_most t (omega (arith, fit.processes, mul-le-mul_right (channel_bytes entries) fit.channels))
