use Rattle.std.proofs.Common.{refl, inl, inr}
use Rattle.reduction.proofs.Shrinking.{fewer_held, fewer_count, fewer_fails, fewer_lost}
use Rattle.reduction.proofs.search.Search.try_without.Goals as goal

pub fails-requires : goal.fails-requires
fails-requires c = let (failing, order, within) = c.requires in fewer_held failing order within c.without-fewer.ensures

-- without the block the part fails as before, or it doesn't and stays
pub returns-then-fails : goal.returns-then-fails
returns-then-fails c =
    let (failing, order, within) = c.requires in
    record {
      failing = fewer_fails failing order within c.without-fewer.ensures c.fails.ensures c.if-fails.true;
      either = inl (fewer_count failing order within c.without-fewer.ensures);
    }

pub returns : goal.returns
returns c =
    let (failing, order, within) = c.requires in
    let lost = fewer_lost failing order within c.without-fewer.ensures c.fails.ensures c.if-fails.false in
    record { failing = failing; either = inr (refl, lost) }
