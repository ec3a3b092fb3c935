-- `check`: each return rewrites the definition's tests by those that led there.
use Rattle.std.proofs.Common.{◌≤◌, length, rules}
use Rattle.std.proofs.Math.Option.{or_else}
use Rattle.model.specs.Check.{first_refusal}
use Rattle.model.specs.Outcome.{refusal_of}
use Rattle.model.specs.Program.{shape_refusal}
use borrow.Author.Tests.{lt-ltb, le-ltb}
use Rattle.plan.proofs.check.Goals as goal

pub returns-then-bytes-lt-SIZES : goal.returns-then-bytes-lt-SIZES
unfolding refusal_of shape_refusal or_else first_refusal
returns-then-bytes-lt-SIZES c = simp (lt-ltb _ _ c.if-bytes-lt-SIZES.true)

pub returns-in_err-sizes : goal.returns-in_err-sizes
unfolding refusal_of shape_refusal or_else first_refusal
returns-in_err-sizes c =
    rw (le-ltb _ _ c.if-bytes-lt-SIZES.false, ← c.sizes.ensures, c.in_err-sizes.was) (search rules)

pub returns-then-bytes-plan_length : goal.returns-then-bytes-plan_length
unfolding refusal_of shape_refusal or_else first_refusal
returns-then-bytes-plan_length c =
    rw (
      le-ltb _ _ c.if-bytes-lt-SIZES.false,
      ← c.sizes.ensures,
      c.in_ok-sizes.was,
      ← c.plan_length.ensures,
      lt-ltb _ _ c.if-bytes-plan_length.true,
    )
    (search rules)

pub returns : goal.returns
unfolding refusal_of shape_refusal or_else first_refusal
returns c =
    let whole : c.plan_length.result ≤ length c.args.bytes.now = c.if-bytes-plan_length.false in
    rw (
      le-ltb _ _ c.if-bytes-lt-SIZES.false,
      ← c.sizes.ensures,
      c.in_ok-sizes.was,
      ← c.plan_length.ensures,
      le-ltb _ _ whole,
    )
    (search rules)
