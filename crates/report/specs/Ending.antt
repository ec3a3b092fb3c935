-- The lines after the last request: "Last come each board with its word, and each wire with its message count and
-- bodies."
use Rattle.std.specs.Prelude.{ℕ, zero, suc, ◌+◌, ◌*◌, max, List, ◌++◌, length}
use Rattle.model.specs.declared.Entry.{Entry}
use Rattle.model.specs.declared.Topology.{Topology}
use Rattle.model.specs.Notation.{concat_below}
use Rattle.model.specs.Topology.{process_limit, channel_limit}
use Rattle.model.specs.Channel.{bodies}
use Rattle.model.specs.State.{GlobalState}
use Rattle.report.specs.Text.{process_text, channel_text}
use Rattle.report.specs.TextBytes.{process_bytes, channel_bytes}

-- those of the first n processes with these words, and of the first n channels with these entries
abbrev pub processes_text : ℕ → (ℕ → ℕ) → List ℕ
processes_text n word = concat_below n (λ p. process_text p (word p))

abbrev pub channels_text : ℕ → (ℕ → List Entry) → List ℕ
channels_text n channel = concat_below n (λ c. channel_text c (bodies (channel c)))

-- those of a topology, as a state has them
abbrev pub ending_text : Topology → GlobalState → List ℕ
ending_text T s = processes_text T.processes s.word ++ channels_text T.channels s.channel

-- how many entries one of the first n channels has at most
unfoldable pub most_entries : ℕ → (ℕ → List Entry) → ℕ
most_entries zero channel = 0
most_entries (suc n) channel = max (most_entries n channel) (length (channel n))

-- how many bytes all of them have at most; and at the very most, where no channel has more entries than this
abbrev pub ending_bytes : Topology → GlobalState → ℕ
ending_bytes T s = T.processes * process_bytes + T.channels * channel_bytes (most_entries T.channels s.channel)

abbrev pub longest_ending : ℕ → ℕ
longest_ending entries = process_limit * process_bytes + channel_limit * channel_bytes entries
