-- `deeds::Past::done` meets its contract.
use Rattle.std.proofs.Common.{rules, arith}
use Rattle.slow.specs.Kept.{past_of}
use Rattle.slow.proofs.Pasts.{latest_is}
use Rattle.slow.proofs.deeds.Past.done.Goals as goal

pub returns : goal.returns
unfolding past_of
returns c = let e = latest_is c.args.self.now.count c.args.self.now.deeds (omega arith) in search rules
