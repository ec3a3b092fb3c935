-- What is needed to work out the state, and a call that is judged in it.
use Rattle.std.specs.Prelude.{ℕ, ◌≤◌, ◌<◌, ◌≡◌, List, length}
use Rattle.std.proofs.Math.Option.{none}
use Rattle.account.specs.declared.Deed.{Deed}
use Rattle.model.specs.declared.Topology.{Topology}
use Rattle.model.specs.Topology.{topology_refusal}
use Rattle.model.specs.State.{GlobalState}
use Rattle.model.specs.Record.{Fields}
use Rattle.account.specs.Logs.{messages_logged, channel_logged}
use Rattle.account.specs.Contents.{history_of, channel_by}
use Rattle.account.specs.Judging.{turned_down, says, writes_made, said_or, made_or}
use Rattle.slow.specs.Replays.{call_said}
use Rattle.slow.specs.declared.CallAnswer.{CallAnswer}
use Rattle.slow.specs.declared.deeds.Past.{Past}
use Rattle.slow.specs.Kept.{past_of}
use Rattle.slow.specs.Seen.{AllFit}

-- nothing is over its room
pub record Small (T : Topology) (past : List Deed) : Type 0 where
  pub messages : (p : ℕ) → p < T.processes → messages_logged T p past ≤ 64
  pub channels : (c : ℕ) → c < T.channels → channel_logged c past ≤ 8
  pub room : (c : ℕ) → c < T.channels → length (channel_by T past (history_of T past) c) ≤ 8

-- a past of calls that were answered as the run answers them
pub record Ready (T : Topology) (past : Past) : Type 0 where
  pub fit : AllFit T (past_of past)
  pub good : topology_refusal T ≡ none
  pub small : Small T (past_of past)

-- a call with these fields is answered as it is judged in this state
pub record Judges (s : GlobalState) (f : Fields) (r : CallAnswer) : Type 0 where
  pub outcome : call_said r.outcome ≡ said_or (turned_down s f) (says s f)
  pub made : r.made ≡ made_or (turned_down s f) (writes_made s f)
