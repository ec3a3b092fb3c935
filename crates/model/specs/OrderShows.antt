-- Document 02, M-101: "Which neighbour spoke first. Two neighbours sending equal bodies in either order lift different
-- hooks, yet the word doesn't show it." Now it does: the words after the two orders are different. As a statement; the
-- theorem is proofs/OrderShows.antt.
use Rattle.std.specs.Prelude.{ℕ, ◌<◌, ◌≡◌, [], ◌∷◌}
use Rattle.model.specs.Word.{receipt, replay}
use Rattle.model.specs.Topology.{channel_limit}

-- the same body from channels c and d makes the same word in both orders only where c and d are one channel
abbrev pub OrderShows : Type 0
OrderShows =
    (word body c d : ℕ) → c < channel_limit → d < channel_limit
    → replay word (receipt c body ∷ receipt d body ∷ []) ≡ replay word (receipt d body ∷ receipt c body ∷ [])
    → c ≡ d
