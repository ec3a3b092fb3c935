-- What a step makes of one channel's entries.
use Prim.Native.Nat.{ℕ, ◌+◌}
use mathlib.Core.Path.{◌≡◌, refl, subst}
use mathlib.Core.Bool.{false}
use mathlib.Core.List.{List, [], ◌∷◌, ◌++◌}
use mathlib.Core.Option.{Option, none, some}
use Rattle.model.specs.declared.Entry.{Entry}
use Rattle.model.specs.declared.Entry.TheVariants.{Message, Marker}
use Rattle.model.specs.declared.Step.{Step}
use Rattle.model.specs.declared.Step.TheVariants.{Send, Receive, Begin, PhysicalCheckpoint}
use Rattle.model.specs.declared.Step.TheVariants.{LogicalCheckpoint, SendMarker, Commit, Abort}
use Rattle.model.specs.Notation.{upd}
use Rattle.model.specs.Topology.{sender, has_channel, is_late, first_early}
use Rattle.model.specs.Channel.{bodies, messages}
use Rattle.model.specs.State.{GlobalState, no_counts}
use Rattle.model.specs.Change.{with_round, with_tag, with_channel, with_progress, with_counts, in_phase, set_entries}
use Rattle.model.specs.Change.{logical_checkpoint, record_saved, record_sent, plain_channels, end_round}
use Rattle.model.specs.Step.{quietly, receive, physical_at, physical_from, after_physical, effect}
use Rattle.model.proofs.laws.Tests.{either}
use Rattle.model.proofs.laws.Functions.{Indices, same, other, indices, upd_same, upd_other}
use Rattle.model.proofs.laws.Receiving.{receive_takes}

-- the entries of channel c after a step: as they were, with one more at the end, without the first, or messages alone
pub data Becomes (s : GlobalState) (c : ℕ) : Step → List Entry → Type 0 where
  stays : {x : Step} → Becomes s c x (s.channel c)
  message : (b : ℕ) → Becomes s c (Send c b) (s.channel c ++ (Message b (s.tag (sender s.topology c)) ∷ []))
  marker : Becomes s c (SendMarker c) (s.channel c ++ (Marker ∷ []))
  taken : (e : Entry) (es : List Entry) → s.channel c ≡ e ∷ es → Becomes s c (Receive c) es
  plain : Becomes s c Abort (messages false (bodies (s.channel c)))

physical_channels : (from : ℕ) (s : GlobalState) → (physical_from from s).channel ≡ s.channel
unfolding physical_from physical_at in_phase with_round with_progress
physical_channels from s = go (first_early s.topology.processes s.topology.late from)
  where
    go : (o : Option ℕ) → (physical_at o s).channel ≡ s.channel
    go (some p) = refl
    go none = refl

module _ (s : GlobalState) where
  -- entries put on channel d
  put : (d c : ℕ) (x : Step) (es : List Entry) → Becomes s d x es → Becomes s c x (upd s.channel d es c)
  put d c x es own = go (indices d c)
    where
      go : Indices d c → Becomes s c x (upd s.channel d es c)
      go (same e) =
          subst (λ (j : ℕ). Becomes s j x (upd s.channel d es j)) e (rw (upd_same s.channel d es) own)
      go (other n) = rw (upd_other s.channel d c es n) stays

  pub effect_becomes : (x : Step) (c : ℕ) → Becomes s c x ((effect s x).state.channel c)
  unfolding effect quietly receive after_physical set_entries with_channel with_round with_tag with_progress with_counts
      record_saved logical_checkpoint record_sent end_round plain_channels
  effect_becomes (Send d b) c = put d c (Send d b) _ (message b)
  effect_becomes (Receive d) c = go (s.channel d) refl
    where
      go : (es : List Entry) → s.channel d ≡ es → Becomes s c (Receive d) ((receive s d es).state.channel c)
      go [] q = stays
      go (e ∷ es) q = rw (receive_takes s d e es) (put d c (Receive d) es (taken e es q))
  effect_becomes Begin c = rw (physical_channels 0 (with_counts no_counts s)) stays
  effect_becomes (PhysicalCheckpoint p) c =
      either (λ (y : GlobalState). Becomes s c (PhysicalCheckpoint p) (y.channel c)) (is_late s.topology p) _ _
      stays (rw (physical_channels (p + 1) s) stays)
  effect_becomes (LogicalCheckpoint p) c = stays
  effect_becomes (SendMarker d) c = put d c (SendMarker d) _ marker
  effect_becomes Commit c = stays
  effect_becomes Abort c = either (Becomes s c Abort) (has_channel s.topology c) _ _ plain stays
