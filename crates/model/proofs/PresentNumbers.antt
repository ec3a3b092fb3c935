-- The present form's numbers are M-101's (the statement is PresentNumbers of specs/PresentNumbers.antt).
use mathlib.Core.Path.{refl}
use Rattle.model.specs.Form.{numbers}
use Rattle.model.specs.PresentNumbers.{PresentNumbers}

pub present_numbers : PresentNumbers
unfolding numbers
present_numbers = refl
