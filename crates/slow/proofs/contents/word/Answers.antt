use Rattle.slow.specs.Kept.{deed_at}
use Rattle.slow.specs.Seen.{place_in}
use Rattle.slow.proofs.OnChannel.{word_more}
use Rattle.slow.proofs.contents.word.Goals as goal

pub loop-k-preserved : goal.loop-k-preserved
loop-k-preserved c =
    let more = word_more (λ i. deed_at c.args.past (place_in c.args.histories c.args.p i)) c.loop-k.k in
    cc
