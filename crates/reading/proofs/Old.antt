-- The old form's numbers are document 01's.
use Rattle.std.proofs.Common.{refl}
use Rattle.model.specs.Form.{numbers}
use Rattle.reading.specs.Old.{OldNumbers}

pub old_numbers : OldNumbers
unfolding numbers
old_numbers = refl
