-- `engine::receive::after`, field by field: written out, so that a fault here is refused beside one in `word_after`
-- (must-fail/deeds_gone_wrong.edit).
use Rattle.std.proofs.Common.{refl}
use Rattle.engine.proofs.Receptions.{toggled}
use Rattle.engine.proofs.receive.after.Goals as goal

pub returns : goal.returns
returns c =
    record {
      round = refl;
      held = c.pop.ensures;
      word = c.word_after.ensures;
      tag = toggled c.args.s.tag c.args.x.logical_first;
      logical = refl;
      saved = refl;
      closed = refl;
      sent = refl;
      in_channel = refl;
      in_messages = refl;
    }
