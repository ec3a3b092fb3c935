-- An abort keeps the invariant: the bodies stay on their channels, all tags are 0 and no marker is left, so the state
-- is idle at the same line.
use Prim.Native.Nat.{ℕ, ◌<◌}
use mathlib.Core.Path.{◌≡◌, refl, sym, ap, ◌∙◌}
use mathlib.Core.Bool.{false}
use mathlib.Core.List.{List, ◌++◌}
use borrow.Author.Tests.{lt-ltb}
use Rattle.model.specs.declared.Step.TheVariants.{Abort}
use Rattle.model.specs.Topology.{has_channel}
use Rattle.model.specs.Channel.{bodies, messages}
use Rattle.model.specs.State.{GlobalState}
use Rattle.model.specs.Change.{plain_channels, end_round, with_tag, with_channel, with_progress, with_round}
use Rattle.model.specs.Write.{write_all}
use Rattle.model.specs.Step.{effect, quietly}
use Rattle.model.specs.History.{History, no_marks, on_step, on_accepted}
use Rattle.model.proofs.laws.ChannelLaws.{bodies_messages}
use Rattle.model.proofs.line.Values.{book_of, seen_of, channel_at}
use Rattle.model.proofs.line.Invariant.{Inv, KeepsBy}

module _ (s : GlobalState) (st : List ℕ) (h : History) (i : Inv s st h) where
  plain : (c : ℕ) → c < s.topology.channels → plain_channels s c ≡ messages false (bodies (s.channel c))
  unfolding plain_channels has_channel
  plain c l = rw (lt-ltb c s.topology.channels l)

  same_bodies : (c : ℕ) → c < s.topology.channels → bodies (plain_channels s c) ≡ bodies (s.channel c)
  same_bodies c l = ap bodies (plain c l) ∙ bodies_messages false (bodies (s.channel c))

  pub abort_kept : KeepsBy s st h Abort (effect s Abort)
  unfolding effect quietly end_round with_tag with_channel with_progress with_round write_all on_step on_accepted
      no_marks book_of seen_of
  abort_kept =
      record {
        sized = i.sized;
        stored = i.stored;
        tag = false;
        processes = λ p l.
            let v = i.processes p l in
            record {
              now = v.now;
              within = v.within;
              finished = v.finished;
              fits = v.fits;
              round = record { tag = refl; mark = refl };
            };
        channels = λ c l.
            let v = i.channels c l in
            record {
              now = v.now ∙ ap (λ (b : List ℕ). (channel_at s st h c).arrived.all ++ b) (sym (same_bodies c l));
              finished = v.finished;
              fits = v.fits;
              round = plain c l ∙ ap (messages false) (sym (same_bodies c l));
            };
      }
