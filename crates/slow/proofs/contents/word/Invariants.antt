-- the word that the first k events make
use Rattle.std.proofs.Common.{◌≡◌}
use Rattle.model.specs.Notation.{tabulate}
use Rattle.model.specs.Word.{replay}
use Rattle.model.specs.History.{receipts_of}
use Rattle.slow.specs.Kept.{deed_at}
use Rattle.slow.specs.Seen.{event_of, place_in}
use Rattle.slow.proofs.contents.word.Given as goal

abbrev pub invariant-loop-k : goal.invariant-loop-k
invariant-loop-k l =
    l.word ≡ replay 0 (receipts_of (tabulate l.k (λ i. event_of (deed_at l.past (place_in l.histories l.p i)))))
