-- Where things stand in the store, in the present form's numbers.
use Rattle.std.proofs.Common.{◌≡◌, ℕ, ◌+◌, ◌*◌, ◌%◌, refl}
use Rattle.model.specs.Form as form
use Rattle.model.specs.Layout.{slot, physical_cell, count_cell, message_log, channel_log}

module _ (line : ℕ) where
  pub slot_at : slot line ≡ 1 + 2656 * (line % 2)
  unfolding form.slot
  slot_at = refl

  pub physical_at : (p : ℕ) → physical_cell line p ≡ 1 + 2656 * (line % 2) + 130 * p
  unfolding form.slot form.process_record form.physical_cell
  physical_at p = refl

  pub message_count_at : (p : ℕ) → count_cell line (message_log p) ≡ physical_cell line p + 1
  unfolding form.slot form.process_record form.physical_cell form.count_cell
  message_count_at p = refl

  pub channel_count_at : (c : ℕ) → count_cell line (channel_log c) ≡ slot line + 2080 + 9 * c
  unfolding form.slot form.channel_record form.count_cell
  channel_count_at c = refl
