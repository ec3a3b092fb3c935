-- `past::of` meets its contract.
use Rattle.std.proofs.Common.{◌≡◌, ◌∙◌, sym, ◌+◌, ◌<◌, get_or, length, set, arith, rules}
use lib.Seq.{get_or-set_same, get_or-set_other}
use Rattle.model.proofs.laws.Functions.{by_index}
use Rattle.slow.specs.Kept.{past_of, nothing, deed_for}
use Rattle.slow.proofs.Pasts.{latest_cong}
use Rattle.slow.proofs.past.of.Goals as goal

pub loop-i-preserved : goal.loop-i-preserved
loop-i-preserved c =
    let i = c.loop-i.i in
    let told = c.loop-i.invariant.told in
    let inside : i < length c.loop-i.deeds = omega (arith, c.loop-i.invariant.places) in
    let f = deed_for c.args.calls.now c.args.answers.now in
    let own : c.done.result ≡ f i = search rules in
    record {
      places = search rules;
      told = by_index (λ k. k < i + 1 → get_or (set c.loop-i.deeds i c.done.result) k nothing ≡ f k) i
          (λ m. get_or-set_same c.loop-i.deeds i c.done.result nothing inside ∙ own)
          (λ k d m. get_or-set_other c.loop-i.deeds i k c.done.result nothing (λ e. d (sym e))
          ∙ told k (omega (arith, d)));
    }

pub returns : goal.returns
unfolding past_of
returns c = latest_cong (length c.args.answers.now) _ _ (λ k l. c.loop-i.invariant.told k (omega arith))
