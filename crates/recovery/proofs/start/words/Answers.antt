use Rattle.std.proofs.Common.{◌≡◌, ◌∙◌, ◌<◌, length-set, refl, arith}
use Rattle.model.specs.Topology.{process_limit, is_late}
use Rattle.model.specs.Layout.{present}
use Rattle.model.proofs.laws.Functions.{seen_replicate, filled_none, filled_more}
use Rattle.model.proofs.store.Readable.{readable}
use Rattle.reading.proofs.Whole.{word_given}
use Rattle.recovery.proofs.Recovering.{word_of, words_below}
use Rattle.recovery.proofs.start.words.Goals.{In-loop-p}
use Rattle.recovery.proofs.start.words.Goals as goal

-- the process of a turn has a place
inside : (c : In-loop-p) → c.loop-p.p < process_limit
inside c =
    omega (arith, c.loop-p-test.true, (readable present c.args.topology c.args.store.now c.requires).sized.processes)

pub loop-p-init : goal.loop-p-init
loop-p-init c =
    record {
      length = refl;
      filled = seen_replicate process_limit 0 ∙ filled_none (word_of c.args.topology c.args.store.now) 0;
    }

pub bounds-words-p : goal.bounds-words-p
bounds-words-p c = inside (goal.at.bounds-words-p c).In-loop-p

pub loop-p-preserved : goal.loop-p-preserved
unfolding is_late
loop-p-preserved c =
    let T = c.args.topology in
    let l = c.loop-p in
    record {
      length = simp length-set l.invariant.length;
      filled =
          filled_more (λ x. x) l.words 0 c.word.result l.p (word_of T c.args.store.now) 0
          (omega (arith, l.invariant.length, inside (goal.at.loop-p-preserved c).In-loop-p)) l.invariant.filled
          (word_given _ T _ c.requires _ c.loop-p-test.true c.is_late-late.ensures c.word.ensures);
    }

pub returns : goal.returns
returns c =
    let T = c.args.topology in
    let all : c.loop-p.p ≡ T.processes = omega (arith, c.loop-p.auto.p-end) in
    rw all at c.loop-p.invariant.filled ∙ words_below T c.args.store.now
