-- How a state of the code is seen: a channel as the code reads it, and the state after one of its arrays was changed.
-- Two states are equal part by part.
use Rattle.std.proofs.Common.{◌≡◌, ℕ, ◌<◌, length, get_or, set, sym, refl, ap, ◌∙◌, ap₂}
use Rattle.model.specs.declared.State.{State}
use Rattle.model.specs.declared.Channel.{Channel}
use Rattle.model.specs.declared.Places.{Places}
use Rattle.model.specs.Notation.{upd}
use Rattle.model.specs.Channel.{held, places_of, entries}
use Rattle.model.specs.Change.{with_channel, set_entries}
use Rattle.model.specs.State.{GlobalState, no_places, entries_in, view}
use Rattle.model.proofs.laws.Functions.{get_d_within, seen_set_both}

-- two states that agree in every part
pub same_state : {a b : GlobalState} → a.topology ≡ b.topology → a.round ≡ b.round → a.word ≡ b.word
    → a.tag ≡ b.tag → a.channel ≡ b.channel → a.progress ≡ b.progress → a.counts ≡ b.counts → a ≡ b
same_state t r w g c p n =
    λ i. record { topology = t i; round = r i; word = w i; tag = g i; channel = c i; progress = p i; counts = n i }

module _ (s : State) (c : ℕ) (in_places : c < length s.places) where
  -- a channel, as the code reads it
  pub channel_read_lem : (d : Places) {x : Channel} → x ≡ held (get_or s.places c d) (get_or s.lengths c 0)
      → (view s).channel c ≡ entries x
  unfolding view
  channel_read_lem d e =
      ap (λ (p : Places). entries (held p (get_or s.lengths c 0))) (get_d_within s.places c no_places d in_places)
      ∙ ap entries (sym e)

  -- the channels with one exchanged for x
  module _ (in_lengths : c < length s.lengths) (x : Channel) (places : Places) (n : ℕ) (e : places ≡ places_of x)
      (used : n ≡ x.count) where
    pub channels_set : entries_in (set s.places c places) (set s.lengths c n)
        ≡ upd (view s).channel c (entries x)
    unfolding view
    channels_set =
        seen_set_both (λ (p : Places) (n : ℕ). entries (held p n)) s.places s.lengths c places no_places n 0
        in_places in_lengths
        ∙ ap₂ (λ (p : Places) (n : ℕ). upd (view s).channel c (entries (held p n))) e used

    -- and the state with it
    pub channel_set : view
        (record {
          topology = s.topology;
          round = s.round;
          words = s.words;
          tags = s.tags;
          places = set s.places c places;
          lengths = set s.lengths c n;
          flags = s.flags;
          counts = s.counts;
        })
        ≡ set_entries c (entries x) (view s)
    unfolding view set_entries with_channel
    channel_set = same_state refl refl refl refl channels_set refl refl
