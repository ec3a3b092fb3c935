-- What must hold of source and target where a line is carried.
use Rattle.std.specs.Prelude.{ℕ, ◌+◌, ◌<◌, ◌≤◌, ◌≡◌, List, length}
use Rattle.std.proofs.Math.Option.{none}
use Rattle.model.specs.declared.Topology.{Topology}
use Rattle.model.specs.Form.{cell, channel_places}
use Rattle.reading.specs.declared.form.Form.{Form}
use Rattle.reading.specs.Source.{form_of}
use Rattle.migration.specs.Carry.{carry_refusal}

-- nothing is refused
abbrev pub Admitted : Topology → Form → List ℕ → Form → List ℕ → Type 0
Admitted T from source to target = carry_refusal (form_of from) (form_of to) T source (length target) ≡ none

-- the channel log whose count stands in the source's cell `from` is in the source, and from its cell `to` on the target
-- has as many cells
pub record Copyable (source : List ℕ) (from : ℕ) (target : List ℕ) (to : ℕ) : Type 0 where
  pub count : cell source from ≤ channel_places
  pub lies : from + cell source from < length source
  pub room : to + cell source from < length target
