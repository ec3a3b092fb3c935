use Rattle.std.proofs.Common.{◌≡◌, ◌∙◌, ◌&&◌, ◌<◌, ◌≤◌, ◌+◌, ℕ, nat_lt, true, false, get_or}
use Rattle.std.proofs.Common.{refl, sym, ap, arith}
use lib.ListN.{get_or-replicate}
use borrow.Author.Tests.{leb-true, lt-ltb}
use Rattle.std.proofs.Common.{length-set}
use Rattle.model.specs.declared.Places.{Places}
use Rattle.model.specs.Topology.{channel_limit}
use Rattle.model.specs.Notation.{tabulate}
use Rattle.model.specs.State.{no_places}
use Rattle.model.specs.Channel.{array_places, entries, messages}
use Rattle.model.specs.Form.{cell, channel_log, channel_places, count_cell, logged, bodies_by, entries_by}
use Rattle.model.proofs.laws.Tests.{and_right}
use Rattle.model.proofs.laws.Functions.{seen_replicate, filled_none, filled_more}
use Rattle.model.proofs.laws.ChannelLaws.{entries_messages}
use Rattle.model.proofs.store.Readable.{bodies_are}
use Rattle.reading.specs.Source.{form_of, whole, bodies_at}
use Rattle.reading.proofs.log.channel.Goals.{After-is_whole}
use Rattle.reading.proofs.log.channel.Goals as goal

-- what is tested is whether its log is whole
tested : (c : After-is_whole)
    → nat_lt c.args.channel channel_limit && c.is_whole.result
    ≡ whole (form_of c.args.form) c.args.store.now (channel_log c.args.channel)
unfolding whole count_cell
tested c = rw (c.is_whole.ensures, c.channel_count_cell-at.ensures.is, c.line.ensures) refl

pub returns-then-not-whole : goal.returns-then-not-whole
unfolding entries tabulate whole count_cell
returns-then-not-whole c =
    let told : nat_lt c.args.channel channel_limit && c.is_whole.result ≡ false = c.if-not-whole.true in
    rw (c.empty.ensures, ← c.line.ensures, ← c.channel_count_cell-at.ensures.is, ← c.is_whole.ensures, told) refl

-- and then it is within its places
fits : (c : After-is_whole) → nat_lt c.args.channel channel_limit && c.is_whole.result ≡ true
    → cell c.args.store.now c.channel_count_cell-at.result ≤ channel_places
fits c e = leb-true _ _ (and_right _ _ (and_right _ _ (rw c.is_whole.ensures at e)))

pub overflow_cast-store : goal.overflow_cast-store
unfolding cell
overflow_cast-store c =
    omega (arith, fits (goal.at.overflow_cast-store c).After-is_whole c.if-not-whole.false)

-- its places are all of a message tagged 0
plain_kinds : {p : Places} → p ≡ no_places → (j : ℕ) → j < array_places → get_or p.kinds j 0 ≡ 0
unfolding no_places
plain_kinds e j h = rw e (get_or-replicate array_places j 0 0 h)

pub loop-i-init : goal.loop-i-init
loop-i-init c = record { room = refl; filled = seen_replicate array_places 0 ∙ filled_none _ 0 }

pub loop-i-preserved : goal.loop-i-preserved
unfolding cell
loop-i-preserved c =
    let l = c.loop-i in
    let body : ℕ → ℕ = λ j. cell c.args.store.now (c.channel_count_cell-at.result + 1 + j) in
    record {
      room = simp length-set l.invariant.room;
      filled =
          filled_more (λ x. x) l.bodies 0 (body l.i) l.i body 0 (omega (arith, l.invariant.room))
          l.invariant.filled refl;
    }

pub returns : goal.returns
unfolding cell logged bodies_by entries_by
returns c =
    let told : whole (form_of c.args.form) c.args.store.now (channel_log c.args.channel) ≡ true =
    sym (tested (goal.at.returns c).After-is_whole) ∙ c.if-not-whole.false in
    let st = c.args.store.now in
    let at : ℕ = c.channel_count_cell-at.result in
    let within : cell st at ≤ channel_places = fits (goal.at.returns c).After-is_whole c.if-not-whole.false in
    ap entries c.held.ensures
    ∙ entries_messages _ (λ i. cell st (at + 1 + i))
    (λ j h. plain_kinds c.blank-places.ensures j (omega arith))
    (λ j h. ap (λ (f : ℕ → ℕ). f j) c.loop-i.invariant.filled ∙ rw (lt-ltb j c.loop-i.i (omega arith)))
    ∙ ap (messages false) (sym (bodies_are st at _))
    ∙ rw told
    (ap (λ (a : ℕ). messages false (bodies_at st a))
    (c.channel_count_cell-at.ensures.is
    ∙ ap (λ (n : ℕ). count_cell (form_of c.args.form) n (channel_log c.args.channel)) c.line.ensures))
