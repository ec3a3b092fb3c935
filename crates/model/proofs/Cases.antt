-- The starred cases of document 01, and those of document 02, M-101 and M-105, hold of the definitions: one fact over
-- the table, by computation.
use mathlib.Core.Path.{refl}
use Rattle.model.specs.Run as run
use Rattle.model.specs.ProgramsAreRuns as runs
use Rattle.model.specs.CaseLines as lines
use Rattle.model.specs.CaseInputs as inputs
use Rattle.model.specs.LateCases as late
use Rattle.model.specs.Cases as cases
use Rattle.model.specs.Cases.{StarredHold}
use Rattle.model.proofs.Computing.{computing}

pub starred_hold : StarredHold
unfolding
    computing run.reply_to run.state_after run.store_after run.next run.run run.first_world runs.call_with runs.call_of
    lines.said_word lines.line_numbers lines.numbered lines.output_numbers lines.printed lines.steps_of
    lines.after_steps lines.answer_in lines.in_state lines.under_plan lines.answer_line lines.calling lines.recovering
    lines.then_serves lines.tag_number lines.entry_numbers lines.then_tags lines.reading_numbers inputs.input
    inputs.one_process inputs.neighbours inputs.late_start inputs.late_round inputs.late_copy inputs.late_wires
    inputs.all_late inputs.unknown_late late.late_cases cases.starred
starred_hold = refl
