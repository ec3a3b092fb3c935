-- `rules::channel::push`: each entry's kind and body mean that entry.
use Rattle.std.proofs.Common.{◌∙◌, arith}
use Rattle.model.specs.Channel.{entry_of}
use Rattle.rules.proofs.Putting.{put_pushed, not_pushed}
use Rattle.rules.proofs.channel.push.Goals as goal

pub returns-then-c-gt-LAST_PLACE : goal.returns-then-c-gt-LAST_PLACE
returns-then-c-gt-LAST_PLACE c = not_pushed c.args.c c.args.e (omega arith)

pub returns-in-Message-default-true : goal.returns-in-Message-default-true
unfolding entry_of
returns-in-Message-default-true c = c.extend.ensures.0 ∙ put_pushed _ _ 1 _ (omega arith) cc

pub returns-in-Message-default-false : goal.returns-in-Message-default-false
unfolding entry_of
returns-in-Message-default-false c =
    c.extend-in-Message-default-false.ensures.0 ∙ put_pushed _ _ 0 _ (omega arith) cc

pub returns-in-Marker : goal.returns-in-Marker
unfolding entry_of
returns-in-Marker c = c.extend-in-Marker.ensures.0 ∙ put_pushed _ _ 2 0 (omega arith) cc
