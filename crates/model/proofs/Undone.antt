-- Leaving a word undoes entering it (the statement is Undone of specs/Undone.antt).
use mathlib.Core.Path.{refl}
use Rattle.model.specs.Undone.{Undone}
use Rattle.model.proofs.laws.WordLaws.{leave_enter, undo_replay}

pub undone : Undone
undone = record { inverse = refl; one = leave_enter; all = undo_replay }
