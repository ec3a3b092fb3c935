-- The definitions between the bytes that a program is given and what it answers, as one name to unfold: where
-- `computing` unfolds, all that its line names does, and so a run on given bytes computes. A table of examples, of this
-- crate or another, unfolds it and what the table has of its own.
use mathlib.Core.Option.{or_else}
use Rattle.model.specs.Notation as notation
use Rattle.model.specs.Check as check
use Rattle.model.specs.Word as word
use Rattle.model.specs.Topology as topology
use Rattle.model.specs.Channel as channel
use Rattle.model.specs.Form as form
use Rattle.model.specs.State as state
use Rattle.model.specs.Sound as sound
use Rattle.model.specs.Write as write
use Rattle.model.specs.Change as change
use Rattle.model.specs.Receive as receive
use Rattle.model.specs.Step as step
use Rattle.model.specs.Recover as recovery
use Rattle.model.specs.Start as start
use Rattle.model.specs.Outcome as outcome
use Rattle.model.specs.Record as records
use Rattle.model.specs.Program as program

unfoldable pub computing : Unit {0}
unfolding
    or_else notation.upd notation.tabulate notation.concat_below notation.first_below notation.bit_of notation.all_below
    notation.all_true
    check.first_refusal check.accepts
    word.replay_by word.leave word.undo_by
    topology.sender topology.receiver topology.has_process topology.has_channel topology.is_late topology.first_early
    topology.same_ends topology.channel_refusal topology.size_refusal topology.channels_refusal topology.late_refusal
    topology.topology_refusal
    channel.bodies channel.messages channel.no_room_for_message channel.no_room_for_marker channel.no_entry
    form.cell form.slot form.process_record form.channel_record form.physical_cell form.count_cell form.cells_from
    form.entries_from form.restore_by form.restore form.entries_by form.receipts_by form.bodies_by form.logged
    state.no_progress state.no_counts state.raised state.raised_all state.idle_state
    sound.topology_sound sound.channel_sound sound.log_sound sound.phase_sound sound.line_sound sound.channel_sound_by
    sound.sound_by sound.sound
    write.write write.write_all write.clear_writes write.physical_writes write.cell_writes write.append_writes
    write.log_writes write.logs_writes write.commit_writes write.under_budget
    change.with_round change.with_word change.with_tag change.with_channel change.with_progress change.with_counts
    change.with_logical change.with_saved change.with_closed change.with_sent change.in_phase change.set_entries
    change.enter_message change.logical_checkpoint change.record_saved change.close change.record_sent
    change.plain_channels change.end_round
    receive.logs_only receive.in_message_log receive.reaction_to receive.any_full
    step.may_checkpoint_physically step.may_checkpoint_logically step.may_send_marker step.has_physical step.may_commit
    step.reaction step.first_reaction step.marker_on_closed step.prior_checks step.room_checks step.log_checks
    step.own_checks step.step_checks step.next_line step.quietly step.react step.received_outcome step.receive
    step.physical_at step.physical_from step.after_physical step.effect step.result_of step.step step.answer
    recovery.startup_or recovery.stored_line recovery.initialize_refusal recovery.count_fits recovery.counts_fit
    recovery.recover_refusal recovery.restored recovery.recovered_word recovery.recovered_channel
    recovery.recover
    start.initialize_writes start.initialize start.line_or start.recover_said start.state_or
    outcome.said_values
    records.fields_of records.absent records.provided records.record_of records.and_then records.nonzero
    records.read_byte records.read_body records.read_field records.stands records.good_map records.fields_after
    records.with_rest records.read_fields records.read_record
    program.end_byte program.map_start program.late_map program.plan_of program.plan_length program.shape_refusal
    program.plan_refusal program.read_budget
    program.read_request program.reading_then program.read_all program.of_answer program.of_startup program.serve
    program.line_then program.broken_line program.session program.session_from program.session_of program.report
    program.played_of program.played program.head
computing = tt
