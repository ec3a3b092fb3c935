-- What comes of a kind and a body put into a channel's arrays behind its entries, where there is a place for them and
-- where there is none.
use Rattle.std.proofs.Common.{◌≡◌, ℕ, ◌+◌, ◌<◌, ◌≤◌, Bool, false, ltb, [], ◌∷◌, ◌++◌, length, set, ap, ◌∙◌, arith}
use Rattle.std.proofs.Common.{le-ltb, lt-ltb, ltb-false}
use Rattle.model.specs.declared.Channel.{Channel}
use Rattle.model.specs.declared.Entry.{Entry}
use Rattle.model.specs.declared.Entry.TheVariants.{Message}
use Rattle.model.specs.Channel.{array_places, entry_of, entry_at, entries, body_of}
use Rattle.model.proofs.laws.Tests.{Tested, holds, fails, test}
use Rattle.model.proofs.laws.ChannelLaws.{entries_count, at_past, extended, extended_past}
use Rattle.rules.specs.Placing.{placed, pushed}

module _ (c : Channel) (kinds : length c.kinds ≡ array_places) (bodies : length c.bodies ≡ array_places) where
  module _ (k b : ℕ) where
    pub put_within : c.count < array_places
        → entries (record { bodies = set c.bodies c.count b; kinds = set c.kinds c.count k; count = c.count + 1 })
        ≡ entries c ++ (placed c.count k b ∷ [])
    unfolding placed
    put_within l = rw (lt-ltb c.count array_places l) (extended c k b (omega arith) (omega arith))

    pub put_past : array_places ≤ c.count
        → entries (record { bodies = c.bodies; kinds = c.kinds; count = c.count + 1 })
        ≡ entries c ++ (placed c.count k b ∷ [])
    unfolding placed
    put_past l = rw (le-ltb c.count array_places l) (extended_past c (omega arith) (omega arith))

  -- a message of place i put behind no more than i others: past the arrays its body was 0
  pub put_plain : (n i : ℕ) {b : ℕ} {t : Bool} → n ≤ i → Message b t ≡ entry_at c i
      → placed n 0 b ≡ Message b false
  unfolding placed entry_of
  put_plain n i {b} {t} l h = go (test (ltb n array_places))
    where
      go : Tested (ltb n array_places) → placed n 0 b ≡ Message b false
      go (holds x) = rw x
      go (fails x) =
          let past : array_places ≤ i = omega (arith, ltb-false n array_places x, l) in
          let zero : b ≡ 0 = ap body_of (h ∙ at_past c i (omega arith) (omega arith)) in rw (x, zero)

-- where there is a place for it, what is put there is pushed; where there is none, nothing is
module _ (c : Channel) (e : Entry) where
  pub put_pushed : (k b : ℕ) → c.count < array_places → entry_of k b ≡ e
      → entries c ++ (placed c.count k b ∷ []) ≡ pushed (entries c) e
  unfolding placed pushed
  put_pushed k b l same = rw (← same, entries_count c, lt-ltb c.count array_places l)

  pub not_pushed : array_places ≤ c.count → entries c ≡ pushed (entries c) e
  unfolding pushed
  not_pushed l = rw (entries_count c, le-ltb c.count array_places l)
