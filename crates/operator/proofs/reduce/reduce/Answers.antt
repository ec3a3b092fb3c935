use Rattle.std.proofs.Common.{◌≡◌, false, refl, sym, ap, ◌∙◌, rules}
use Rattle.std.specs.Prelude.{Ok, Err}
use Rattle.operator.specs.declared.refused.Refused.TheVariants.{Other}
use Rattle.operator.specs.Lists.{broken_off, ReadsList}
use Rattle.operator.proofs.Answering.{records, answers_plan, answers_broken, answers_refused, answers_part, has_call}
use Rattle.operator.proofs.Listing.{breaks_off, goes_on}
use Rattle.operator.proofs.reduce.reduce.Goals as goal
use Rattle.operator.proofs.reduce.reduce.Goals.{After-read-read}

pub returns-in_err-topology : goal.returns-in_err-topology
returns-in_err-topology c =
    let same : c.from_residual.result ≡ Err c.in_err-topology.field-0.0 = search rules in
    let fails = c.in_err-topology.ensures in
    rw same (refl, answers_plan c.args.bytes.now fails.checks ∙ sym fails.told)

-- the records after the plan are read
list_read : (c : After-read-read) → ReadsList (records c.args.bytes.now) c.read-read.result
list_read c = rw c.rest.ensures at c.read-read.ensures

pub returns-in_err-read : goal.returns-in_err-read
returns-in_err-read c =
    let same : c.from_residual-in_err-read.result ≡ Err (Other c.in_err-read.field-0.0) = search rules in
    let read = list_read (goal.at.returns-in_err-read c).After-read-read in
    let (number, broken) = breaks_off _ _ (ap (λ e. e) c.in_err-read.was) read.end in
    rw (same, number) (refl, answers_broken c.args.bytes.now c.in_ok-topology.ensures.checks broken)

-- and no bytes but records
whole_list : (c : After-read-read) → {x : Unit {0}} → c.read-read.result.end ≡ Ok x
    → broken_off (records c.args.bytes.now) ≡ false
whole_list c e = goes_on _ e (list_read c).end

pub returns-in_err-found : goal.returns-in_err-found
returns-in_err-found c =
    let same : c.from_residual-in_err-found.result ≡ Err (Other c.in_err-found.field-0.0) = search rules in
    let plan = c.in_ok-topology.ensures in
    let d = (goal.at.returns-in_err-found c).After-read-read in
    rw same (
      refl,
      answers_refused c.args.bytes.now plan.checks plan.plan (list_read d) (whole_list d c.in_ok-read.was)
          (sym c.in_err-found.ensures.answer),
    )

pub part-requires : goal.part-requires
part-requires c = (c.in_ok-found.ensures.parted.held, has_call c.in_ok-found.ensures)

pub returns : goal.returns
returns c =
    let plan = c.in_ok-topology.ensures in
    let d = (goal.at.returns c).After-read-read in
    answers_part c.args.bytes.now plan.checks plan.plan (list_read d) (whole_list d c.in_ok-read.was)
    c.in_ok-found.ensures c.own.ensures c.plan_line-at.ensures c.part.ensures
