use Rattle.slow.proofs.Listing.{none_answered}
use Rattle.slow.proofs.answers.Goals as goal

pub loop-i-init : goal.loop-i-init
loop-i-init c = rw c.no_answers-told.ensures (none_answered _ _)
