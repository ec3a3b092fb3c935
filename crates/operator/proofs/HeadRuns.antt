-- Laws of what `head` prints: of a plan that passes its checks, the answers of the slow engine to the calls that the
-- bytes hold, the line where they break off, and the slow engine's last state, in which no channel has over 8 entries.
use Prim.Native.Nat.{ℕ, zero, suc, ◌+◌, ◌≤◌}
use mathlib.Core.Path.{◌≡◌, refl, sym, ap, subst, ◌∙◌}
use mathlib.Core.List.{List, [], ◌∷◌, ◌++◌, map}
use mathlib.Core.Option.{Option, none, some, or_else}
use lib.ListN.{length, take, replicate, length-map, length-replicate}
use lib.Seq.{take_all}
use borrow.Author.Tests.{le-ltb}
use native.Mathlib.Omega.{arith}
use Rattle.model.specs.declared.Topology.{Topology}
use Rattle.model.specs.declared.Record.{Record}
use Rattle.model.specs.Check.{first_refusal}
use Rattle.model.specs.Topology.{topology_refusal}
use Rattle.model.specs.Channel.{channel_room}
use Rattle.model.specs.Layout.{store_cells}
use Rattle.model.specs.State.{GlobalState, view}
use Rattle.model.specs.Start.{initialize}
use Rattle.model.specs.Recover as recovery
use Rattle.model.specs.Record.{Reading, read_record}
use Rattle.model.specs.Program.{Request, Session, Output, full, full_budget, input_bytes, plan_of, plan_refusal}
use Rattle.model.specs.Program.{read_all, reading_then, broken_line, session_of, report, played_of, played, head}
use Rattle.model.specs.Run.{Call, run}
use Rattle.model.specs.ProgramsAreRuns.{call_with, call_of, IsRun}
use Rattle.model.specs.CallList.{replies}
use Rattle.model.proofs.laws.Calls.{initialize_refusal_lem}
use Rattle.model.proofs.laws.SoundLaws.{sound_facts, entries_fit}
use Rattle.model.proofs.Demand3.{end_holds}
use Rattle.model.proofs.ProgramsAreRuns.{programs_are_runs}
use Rattle.model.proofs.Reached.{reached}
use Rattle.report.specs.Text.{lines_text, output_text}
use Rattle.report.specs.Ending.{most_entries, ending_text}
use Rattle.report.proofs.Endings.{report_text, all_at_most}
use Rattle.slow.specs.declared.Replayed.{Replayed}
use Rattle.slow.specs.Replays.{start, Runs}
use Rattle.operator.specs.Lists.{read_calls, calls_in, broken_off}
use Rattle.operator.specs.Replaying.{answer_lines}
use Rattle.operator.proofs.Answering.{records}
use Rattle.operator.proofs.Listing.{no_request, a_request}
use Rattle.operator.proofs.ToldLines.{lines_append, told_lines}

-- calls with full current: each of `head`'s requests is one
abbrev calls : List Record → List Call
calls cs = map (call_with full_budget) cs

abbrev Full : List Request → Type 0
Full all = map call_of all ≡ calls (map (λ (r : Request). r.content) all)

full_calls : (fuel : ℕ) (bytes : List ℕ) → Full (read_all full fuel bytes).requests
unfolding read_all reading_then call_of
full_calls zero bytes = refl
full_calls (suc fuel) [] = refl
full_calls (suc fuel) (b ∷ bytes) = go (read_record (b ∷ bytes)) refl (full_calls fuel)
  where
    go : (x : Reading Record) → read_record (b ∷ bytes) ≡ x
        → ((rest : List ℕ) → Full (read_all full fuel rest).requests)
        → Full (read_all full (suc fuel) (b ∷ bytes)).requests
    go none e more = rw (no_request (b ∷ bytes) e)
    go (some (r, after)) e more = rw (a_request (b ∷ bytes) r after e, more after)

-- a store of zeros is long enough for an accepted topology, so what is reached from it is sound
abbrev zeros : List ℕ
zeros = replicate store_cells 0

long : store_cells ≤ length zeros
long = omega (arith, length-replicate {A = ℕ} store_cells 0)

ready : (T : Topology) (store : List ℕ) → topology_refusal T ≡ none → store_cells ≤ length store
    → (initialize T store).refusal ≡ none
unfolding recovery.initialize_refusal first_refusal or_else
ready T store accepted l = initialize_refusal_lem T store ∙ rw (accepted, le-ltb _ _ l)

pub few_entries : (T : Topology) → topology_refusal T ≡ none → (cs : List Record) {s : GlobalState}
    → s ≡ (run T (start T) (calls cs)).state → most_entries T.channels s.channel ≤ channel_room
few_entries T accepted cs {s} e =
    let starts = ready T zeros accepted long in
    let fit = sound_facts s (rw e (reached T zeros starts (calls cs)).sound) in
    let same : s.topology ≡ T = rw e (end_holds T zeros starts (calls cs)).topology in
    all_at_most s.channel T.channels channel_room (λ c l. entries_fit s fit c (rw same l))

-- what `head` prints, by what it takes of its input and by the plan's refusal
abbrev pub output_by : Option ℕ → List ℕ → Output
output_by o taken = (played_of o full zeros taken).output

pub head_takes : (bytes : List ℕ) {taken : List ℕ} → take input_bytes bytes ≡ taken
    → head bytes ≡ output_by (plan_refusal taken) taken
unfolding head played
head_takes bytes e = ap (λ (bs : List ℕ). output_by (plan_refusal bs) bs) e

-- of a plan that passes its checks
module _ (bytes : List ℕ) (few : length bytes ≤ input_bytes) (passes : plan_refusal bytes ≡ none) {T : Topology}
    (plan : T ≡ plan_of bytes) where
  abbrev requests : List Request
  requests = (read_calls (records bytes)).requests

  abbrev session : Session
  session = session_of full T zeros (records bytes)

  taken : take input_bytes bytes ≡ bytes
  taken = take_all input_bytes bytes few

  is_run : IsRun T zeros requests (broken_off (records bytes)) session
  is_run =
      rw plan
      (subst
      (λ (bs : List ℕ).
      plan_refusal bs ≡ none
      → IsRun (plan_of bs) zeros (read_calls (records bs)).requests (broken_off (records bs))
      (session_of full (plan_of bs) zeros (records bs)))
      taken (programs_are_runs full zeros bytes long) passes)

  output : head bytes ≡ report T session
  unfolding played_of
  output =
      head_takes bytes taken
      ∙ rw passes (ap (λ (t : Topology). report t (session_of full t zeros (records bytes))) (sym plan))

  pub head_text_lem : (r : Replayed) → Runs T (calls_in (records bytes)) r
      → output_text (head bytes)
      ≡ answer_lines r.count r.answers
      ++ lines_text (broken_line (broken_off (records bytes)) (r.count + 1))
      ++ ending_text T (view r.state)
  unfolding replies
  head_text_lem r p =
      let same = full_calls (length (records bytes)) (records bytes) in
      let next : 1 + length requests ≡ r.count + 1 =
      omega (arith, p.count, length-map requests (λ (q : Request). q.content)) in
      let told = told_lines r (replies T (calls_in (records bytes))) p.answers in
      ap output_text output
      ∙ report_text T session
      ∙ rw (is_run.lines, is_run.state, same, next, lines_append, told, p.state)
