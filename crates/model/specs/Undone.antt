-- Document 02, M-105, of anti-messages: "Restart undoes these in reverse order on the copy, using 3,186,588,639, which
-- times 31 is 1 modulo 2^32." What leaves a word undoes what entered it, one receipt and, the last one first, several:
-- for every word below 2^32, and any channels and bodies. As a statement; the theorem is proofs/Undone.antt.
use Rattle.std.specs.Prelude.{ℕ, ◌*◌, ◌%◌, ◌<◌, ◌≡◌, List}
use Rattle.model.specs.declared.Receipt.{Receipt}
use Rattle.model.specs.Word.{enter, replay, leave, undo_by}

pub record Undone : Type 0 where
  pub inverse : ◌≡◌ {A = ℕ} (31 * 3186588639 % 4294967296) 1
  pub one : (word : ℕ) (r : Receipt) → word < 4294967296 → leave (enter word r) r ≡ word
  pub all : (word : ℕ) (rs : List Receipt) → word < 4294967296 → undo_by leave (replay word rs) rs ≡ word
