-- How the loop of `plain_channels` gets, channel by channel, to what the definition has.
use Rattle.std.proofs.Common.{◌≡◌, ℕ, ◌+◌, false, cond, ltb, List, sym, refl, ap, ◌∙◌, arith, ltb-false, ltb-true}
use Rattle.std.proofs.Common.{le-ltb, lt-ltb}
use mathlib.Core.Path.{fun_ext}
use Rattle.model.specs.declared.Entry.{Entry}
use Rattle.model.specs.Notation.{upd}
use Rattle.model.specs.Channel.{bodies, messages}
use Rattle.model.specs.State.{GlobalState}
use Rattle.model.specs.Change.{with_channel, set_entries}
use Rattle.model.proofs.laws.Tests.{Tested, holds, fails, test}
use Rattle.model.proofs.laws.Functions.{Indices, same, other, indices, upd_at, upd_other}
use Rattle.engine.proofs.Views.{same_state}

-- the first n channels with their messages alone, tagged 0
abbrev pub plain_first : ℕ → (ℕ → List Entry) → ℕ → List Entry
plain_first n f c = cond (ltb c n) (messages false (bodies (f c))) (f c)

plain_none : (f : ℕ → List Entry) → plain_first 0 f ≡ f
plain_none f = fun_ext (λ c. rw (le-ltb c 0 (omega arith)))

plain_more : (n : ℕ) (f : ℕ → List Entry)
    → upd (plain_first n f) n (messages false (bodies (f n))) ≡ plain_first (n + 1) f
plain_more n f = fun_ext (λ c. go c (indices n c) (test (ltb c n)))
  where
    go : (c : ℕ) → Indices n c → Tested (ltb c n)
        → upd (plain_first n f) n (messages false (bodies (f n))) c ≡ plain_first (n + 1) f c
    go c (same e) t = upd_at (plain_first n f) n c _ e ∙ rw (lt-ltb c (n + 1) (omega arith), e)
    go c (other o) (holds t) =
        upd_other (plain_first n f) n c _ o ∙ rw (t, lt-ltb c (n + 1) (omega (arith, ltb-true c n t)))
    go c (other o) (fails t) =
        upd_other (plain_first n f) n c _ o ∙ rw (t, le-ltb c (n + 1) (omega (arith, o, ltb-false c n t)))

-- the state with its first n channels so
abbrev pub plain_to : ℕ → GlobalState → GlobalState
plain_to n s = with_channel (plain_first n s.channel) s

pub plain_to_none : (s : GlobalState) → s ≡ plain_to 0 s
unfolding with_channel
plain_to_none s = same_state refl refl refl refl (sym (plain_none s.channel)) refl refl

module _ (before now : GlobalState) (n : ℕ) (h : now ≡ plain_to n before) where
  -- the next channel is as it was
  pub next_channel : now.channel n ≡ before.channel n
  unfolding with_channel
  next_channel = ap (λ (s : GlobalState). s.channel n) h ∙ rw (le-ltb n n (omega arith))

  pub plain_to_more : (es : List Entry) → es ≡ messages false (bodies (before.channel n))
      → set_entries n es now ≡ plain_to (n + 1) before
  unfolding set_entries with_channel
  plain_to_more es e =
      ap (λ (s : GlobalState). set_entries n es s) h
      ∙ ap (λ (l : List Entry). with_channel (upd (plain_first n before.channel) n l) before) e
      ∙ ap (λ (f : ℕ → List Entry). with_channel f before) (plain_more n before.channel)
