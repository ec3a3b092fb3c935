-- Cases of document 02's M-105, late boards: rows of the one table (Cases).
use Rattle.std.specs.Prelude.{◌+◌, ◌*◌, ◌%◌, List, [], ◌∷◌, ◌++◌, drop}
use Rattle.model.specs.declared.Phase.TheVariants.{Physical}
use Rattle.model.specs.declared.Step.TheVariants.{Receive, Begin, PhysicalCheckpoint, Abort}
use Rattle.model.specs.Notation.{concat_below}
use Rattle.model.specs.Word.{receipt, leave, undo_by}
use Rattle.model.specs.Change.{in_phase}
use Rattle.model.specs.Program as program
use Rattle.model.specs.CaseInputs.{late_round, late_copy}
use Rattle.model.specs.CaseInputs.{late_wires, all_late, unknown_late}
use Rattle.model.specs.CaseLines.{Case}
use Rattle.model.specs.CaseLines.{done, sent, took, note, line, refused, board, wire, power_lost, printed}
use Rattle.model.specs.CaseLines.{steps_of, after_steps, answer_in, in_state, under_plan, answer_line, calling}
use Rattle.model.specs.CaseLines.{then_serves}

-- M-105's rows
unfoldable pub late_cases : List Case
late_cases =
    -- M-105, a round with a late board: "every message taken is logged in its board log as an anti-message of body and
    -- wire [..], after any wire log entry", so 5 stores; "finish waits for it"; "Restart undoes these"
    record {
      got = printed late_round;
      expected =
          (1 ∷ sent ∷ 7 ∷ 0 ∷ [])
          ∷ (2 ∷ done ∷ 3 ∷ [])
          ∷ (3 ∷ done ∷ 1 ∷ [])
          ∷ (4 ∷ done ∷ 0 ∷ [])
          ∷ (5 ∷ done ∷ 0 ∷ [])
          ∷ (6 ∷ took ∷ 5 ∷ 5 ∷ [])
          ∷ (7 ∷ done ∷ 0 ∷ [])
          ∷ (8 ∷ note ∷ 0 ∷ [])
          ∷ (9 ∷ refused ∷ 12 ∷ 0 ∷ [])
          ∷ (10 ∷ done ∷ 1 ∷ [])
          ∷ (11 ∷ done ∷ 1 ∷ [])
          ∷ (12 ∷ line ∷ 1 ∷ 0 ∷ [])
          ∷ (board ∷ 0 ∷ 0 ∷ [])
          ∷ (board ∷ 1 ∷ 0 ∷ [])
          ∷ (wire ∷ 0 ∷ 1 ∷ 5 ∷ [])
          ∷ [];
    }
    -- the same with its take cut first, after 2, 3 and 4 of the 5 stores
    ∷ record {
      got =
          concat_below 3
          (λ i. then_serves late_round 5 (calling (Receive 0) (i + 2) ∷ drop 5 (steps_of late_round)));
      expected =
          concat_below 3
          (λ i.
          (6 ∷ power_lost ∷ (i + 2) ∷ [])
          ∷ (7 ∷ took ∷ 5 ∷ 5 ∷ [])
          ∷ (8 ∷ done ∷ 0 ∷ [])
          ∷ (9 ∷ note ∷ 0 ∷ [])
          ∷ (10 ∷ refused ∷ 12 ∷ 0 ∷ [])
          ∷ (11 ∷ done ∷ 1 ∷ [])
          ∷ (12 ∷ done ∷ 1 ∷ [])
          ∷ (13 ∷ line ∷ 1 ∷ 0 ∷ [])
          ∷ (board ∷ 0 ∷ 0 ∷ [])
          ∷ (board ∷ 1 ∷ 0 ∷ [])
          ∷ (wire ∷ 0 ∷ 1 ∷ 5 ∷ [])
          ∷ []);
    }
    -- cut after 3, and the copy before it is taken: with the board log written first, board 1 would be 40,223,419
    ∷ record {
      got = then_serves late_copy 5 (calling (Receive 0) 3 ∷ drop 5 (steps_of late_copy));
      expected =
          (6 ∷ power_lost ∷ 3 ∷ [])
          ∷ (7 ∷ done ∷ 1 ∷ [])
          ∷ (8 ∷ took ∷ 5 ∷ 2 ∷ [])
          ∷ (9 ∷ done ∷ 0 ∷ [])
          ∷ (10 ∷ note ∷ 0 ∷ [])
          ∷ (11 ∷ done ∷ 1 ∷ [])
          ∷ (12 ∷ line ∷ 1 ∷ 0 ∷ [])
          ∷ (board ∷ 0 ∷ 0 ∷ [])
          ∷ (board ∷ 1 ∷ 0 ∷ [])
          ∷ (wire ∷ 0 ∷ 1 ∷ 5 ∷ [])
          ∷ [];
    }
    -- "A late board is passed over in copying"; "Its takes before the mark go into no log."; three anti-messages of two
    -- wires, one of them of a message that was under way; undone, they leave 31 × (31 × 3 + 0) + 5
    ∷ record {
      got = printed late_wires;
      expected =
          (1 ∷ sent ∷ 7 ∷ 0 ∷ [])
          ∷ (2 ∷ done ∷ 5 ∷ [])
          ∷ (3 ∷ done ∷ 1 ∷ [])
          ∷ (4 ∷ took ∷ 3 ∷ 0 ∷ [])
          ∷ (5 ∷ done ∷ 1 ∷ [])
          ∷ (6 ∷ sent ∷ 7 ∷ 0 ∷ [])
          ∷ (7 ∷ took ∷ 5 ∷ 0 ∷ [])
          ∷ (8 ∷ done ∷ 0 ∷ [])
          ∷ (9 ∷ sent ∷ 7 ∷ 0 ∷ [])
          ∷ (10 ∷ sent ∷ 6 ∷ 0 ∷ [])
          ∷ (11 ∷ sent ∷ 7 ∷ 0 ∷ [])
          ∷ (12 ∷ took ∷ 6 ∷ 3 ∷ [])
          ∷ (13 ∷ took ∷ 8 ∷ 3 ∷ [])
          ∷ (14 ∷ took ∷ 7 ∷ 5 ∷ [])
          ∷ (15 ∷ done ∷ 1 ∷ [])
          ∷ (16 ∷ done ∷ 0 ∷ [])
          ∷ (17 ∷ done ∷ 0 ∷ [])
          ∷ (18 ∷ done ∷ 0 ∷ [])
          ∷ (19 ∷ note ∷ 0 ∷ [])
          ∷ (20 ∷ note ∷ 0 ∷ [])
          ∷ (21 ∷ done ∷ 1 ∷ [])
          ∷ (22 ∷ line ∷ 1 ∷ 0 ∷ [])
          ∷ (board ∷ 0 ∷ 0 ∷ [])
          ∷ (board ∷ 1 ∷ 2888 ∷ [])
          ∷ (board ∷ 2 ∷ 0 ∷ [])
          ∷ (wire ∷ 0 ∷ 0 ∷ [])
          ∷ (wire ∷ 1 ∷ 1 ∷ 7 ∷ [])
          ∷ [];
    }
    -- "if all are late, begin starts marking as the last copy does."; "the take that marks it included"
    ∷ record {
      got = printed all_late;
      expected =
          (1 ∷ done ∷ 3 ∷ [])
          ∷ (2 ∷ done ∷ 0 ∷ [])
          ∷ (3 ∷ done ∷ 1 ∷ [])
          ∷ (4 ∷ sent ∷ 7 ∷ 0 ∷ [])
          ∷ (5 ∷ took ∷ 7 ∷ 3 ∷ [])
          ∷ (6 ∷ done ∷ 0 ∷ [])
          ∷ (7 ∷ note ∷ 0 ∷ [])
          ∷ (8 ∷ done ∷ 1 ∷ [])
          ∷ (9 ∷ done ∷ 1 ∷ [])
          ∷ (10 ∷ line ∷ 1 ∷ 0 ∷ [])
          ∷ (board ∷ 0 ∷ 0 ∷ [])
          ∷ (board ∷ 1 ∷ 0 ∷ [])
          ∷ (wire ∷ 0 ∷ 0 ∷ [])
          ∷ [];
    }
    -- "It may copy once marked, one time in a round": not in copying, not before the mark, not twice
    ∷ record {
      got =
          answer_line 3 (answer_in (after_steps late_round 2) (PhysicalCheckpoint 1) program.full_budget)
          ∷ answer_line 5 (answer_in (after_steps late_round 4) (PhysicalCheckpoint 1) program.full_budget)
          ∷ answer_line 11 (answer_in (after_steps late_round 10) (PhysicalCheckpoint 1) program.full_budget)
          ∷ [];
      expected = (3 ∷ refused ∷ 12 ∷ 0 ∷ []) ∷ (5 ∷ refused ∷ 12 ∷ 0 ∷ []) ∷ (11 ∷ refused ∷ 12 ∷ 0 ∷ []) ∷ [];
    }
    -- "19, a late bit for a board not in the plan, after 5"; "A map broken off is 7, before 3."
    ∷ record {
      got =
          printed unknown_late
          ++ printed (0x02 ∷ 0x01 ∷ 0x00 ∷ 0x01 ∷ 0x00 ∷ 0x80 ∷ [])
          ++ printed (0x02 ∷ 0x02 ∷ 0x00 ∷ 0x01 ∷ 0x00 ∷ 0x01 ∷ 0x04 ∷ 0x00 ∷ [])
          ++ printed (0x02 ∷ 0x01 ∷ 0x00 ∷ 0x02 ∷ 0x04 ∷ []);
      expected = (refused ∷ 19 ∷ []) ∷ (refused ∷ 19 ∷ []) ∷ (refused ∷ 5 ∷ []) ∷ (refused ∷ 7 ∷ []) ∷ [];
    }
    -- "in a state it is 15, and so is a late board as the next to copy": next is board 0, and not board 1
    ∷ record {
      got =
          answer_line 3 (answer_in (after_steps late_round 2) Abort program.full_budget)
          ∷ answer_line 3
          (answer_in (in_state (in_phase (Physical 1)) (after_steps late_round 2)) Abort program.full_budget)
          ∷ answer_line 1
          (answer_in (in_state (under_plan unknown_late) (after_steps late_round 0)) Begin program.full_budget)
          ∷ [];
      expected = (3 ∷ done ∷ 0 ∷ []) ∷ (3 ∷ refused ∷ 15 ∷ 0 ∷ []) ∷ (1 ∷ refused ∷ 15 ∷ 0 ∷ []) ∷ [];
    }
    -- "3,186,588,639, which times 31 is 1 modulo 2^32"; 4,841 above, undone
    ∷ record {
      got =
          (31 * 3186588639 % 4294967296 ∷ [])
          ∷ (leave 4841 (receipt 1 5) ∷ [])
          ∷ (undo_by leave 4841 (receipt 0 5 ∷ receipt 1 5 ∷ []) ∷ [])
          ∷ [];
      expected = (1 ∷ []) ∷ (5 ∷ []) ∷ (0 ∷ []) ∷ [];
    }
    ∷ []
