-- The present form has the numbers of document 02, M-101: "The board record has 130 cells, the half 2,656 and the store
-- 5,313; wire records start at 2,080 in the half." The theorem is proofs/PresentNumbers.antt.
use Rattle.std.specs.Prelude.{◌≡◌, [], ◌∷◌}
use Rattle.model.specs.Form.{numbers}
use Rattle.model.specs.Layout.{present}

abbrev pub PresentNumbers : Type 0
PresentNumbers = numbers present ≡ 130 ∷ 2080 ∷ 2656 ∷ 5313 ∷ []
