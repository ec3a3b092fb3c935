-- The state that the past tells, whole. Who is marked, and so each tag, the marks of the books tell, which are fed from
-- the past. What is not planned stays as setup left it.
use Rattle.std.specs.Prelude.{ℕ, false, cond, [], ltb}
use Rattle.model.specs.declared.Topology.{Topology}
use Rattle.model.specs.Word.{replay}
use Rattle.model.specs.State.{GlobalState}
use Rattle.model.specs.History.{History, receipts_of}
use Rattle.account.specs.Deeds.{Past}
use Rattle.account.specs.Round.{line_of, phase_of, turned}
use Rattle.account.specs.Progress.{closed_in, marker_sent, saved_in}
use Rattle.account.specs.Logs.{messages_logged, channel_logged}
use Rattle.account.specs.Contents.{history_of, has_mark, turned_by, channel_by}

-- f of the planned ones, and z of any other
abbrev pub within : {B : Type 0} → ℕ → (ℕ → B) → B → ℕ → B
within n f z i = cond (ltb i n) (f i) z

-- by the histories h
unfoldable pub state_from : Topology → Past → History → GlobalState
state_from T past h =
    record {
      topology = T;
      round = record { line = line_of past; phase = phase_of T past };
      word = within T.processes (λ p. replay 0 (receipts_of (h.events p))) 0;
      tag = within T.processes (λ p. turned_by (turned past) (has_mark (h.mark p))) false;
      channel = within T.channels (channel_by T past h) [];
      progress =
          record {
            logical = within T.processes (λ p. has_mark (h.mark p)) false;
            saved = within T.processes (λ p. saved_in T p past) false;
            closed = within T.channels (λ c. closed_in c past) false;
            sent = within T.channels (λ c. marker_sent c past) false;
          };
      counts =
          record {
            messages = within T.processes (λ p. messages_logged T p past) 0;
            channels = within T.channels (λ c. channel_logged c past) 0;
          };
    }

unfoldable pub state_of : Topology → Past → GlobalState
state_of T past = state_from T past (history_of T past)
