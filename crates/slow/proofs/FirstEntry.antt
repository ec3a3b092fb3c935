-- The first entry of a channel, by the arrays of places and lengths.
use Rattle.std.proofs.Common.{◌≡◌, ℕ, ◌<◌, List, get_or, ap}
use Rattle.model.specs.declared.Places.{Places}
use Rattle.model.specs.Notation.{tabulate}
use Rattle.model.specs.Channel.{held, entry_of, entry_at, entries}
use Rattle.model.specs.State.{no_places, entries_in}
use Rattle.model.proofs.laws.ChannelLaws.{entries_first}
use Rattle.account.specs.Judging.{first_of}

module _ (places : List Places) (lengths : List ℕ) (c : ℕ) where
  pub first_none : get_or lengths c 0 ≡ 0 → first_of (entries_in places lengths c) ≡ entry_of 0 0
  unfolding entries tabulate entry_of
  first_none e = rw e

  pub first_some : 0 < get_or lengths c 0
      → first_of (entries_in places lengths c) ≡ entry_at (held (get_or places c no_places) (get_or lengths c 0)) 0
  first_some full = ap first_of (entries_first (held (get_or places c no_places) (get_or lengths c 0)) full)
