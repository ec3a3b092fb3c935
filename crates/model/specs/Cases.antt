-- Document 01, "Cases": those with a star, as one table, with the words that document 02, M-101, gives for them and its
-- own case, with what M-104 makes of a send's lines, with M-105's map in each plan, and with M-105's cases (LateCases).
-- Each row has what the definitions give and what the papers say, as lines of numbers. The theorem stands in
-- proofs/Cases.antt.
use Rattle.std.specs.Prelude.{◌+◌, ◌≡◌, List, [], ◌∷◌, ◌++◌, map}
use Rattle.model.specs.declared.Step.TheVariants.{Begin, Commit, Abort}
use Rattle.model.specs.Notation.{concat_below}
use Rattle.model.specs.Word.{receipt, enter, replay}
use Rattle.model.specs.Record.{read_record}
use Rattle.model.specs.Program as program
use Rattle.model.specs.CaseInputs.{input, one_process, neighbours}
use Rattle.model.specs.CaseLines.{Case}
use Rattle.model.specs.CaseLines.{done, sent, took, note, line, refused, board, wire, power_lost, message, printed}
use Rattle.model.specs.CaseLines.{after_steps, answer_in, answer_line, calling}
use Rattle.model.specs.CaseLines.{recovering, then_serves, then_tags, reading_numbers}
use Rattle.model.specs.LateCases.{late_cases}

unfoldable pub starred : List Case
starred =
    -- "One board, no wire: begin, copy, mark, finish give line 1."
    record {
      got = printed one_process ++ ((line ∷ (after_steps one_process 4).state.round.line ∷ []) ∷ []);
      expected =
          (1 ∷ done ∷ 1 ∷ [])
          ∷ (2 ∷ done ∷ 1 ∷ [])
          ∷ (3 ∷ done ∷ 0 ∷ [])
          ∷ (4 ∷ done ∷ 1 ∷ [])
          ∷ (5 ∷ line ∷ 1 ∷ 0 ∷ [])
          ∷ (board ∷ 0 ∷ 0 ∷ [])
          ∷ (line ∷ 1 ∷ [])
          ∷ [];
    }
    -- "The input above ends with 5 on wire 1."; M-104: "lines 4 and 6 become `4 sent 7 0` and `6 sent 7 0`"
    ∷ record {
      got = printed input;
      expected =
          (1 ∷ done ∷ 4 ∷ [])
          ∷ (2 ∷ done ∷ 1 ∷ [])
          ∷ (3 ∷ done ∷ 1 ∷ [])
          ∷ (4 ∷ sent ∷ 7 ∷ 0 ∷ [])
          ∷ (5 ∷ done ∷ 0 ∷ [])
          ∷ (6 ∷ sent ∷ 7 ∷ 0 ∷ [])
          ∷ (7 ∷ took ∷ 7 ∷ 0 ∷ [])
          ∷ (8 ∷ took ∷ 5 ∷ 2 ∷ [])
          ∷ (9 ∷ done ∷ 0 ∷ [])
          ∷ (10 ∷ done ∷ 0 ∷ [])
          ∷ (11 ∷ note ∷ 0 ∷ [])
          ∷ (12 ∷ note ∷ 0 ∷ [])
          ∷ (13 ∷ done ∷ 1 ∷ [])
          ∷ (14 ∷ line ∷ 1 ∷ 0 ∷ [])
          ∷ (board ∷ 0 ∷ 0 ∷ [])
          ∷ (board ∷ 1 ∷ 0 ∷ [])
          ∷ (wire ∷ 0 ∷ 0 ∷ [])
          ∷ (wire ∷ 1 ∷ 1 ∷ 5 ∷ [])
          ∷ [];
    }
    -- "The 8th entry is accepted, a 9th send is 9."
    ∷ record {
      got =
          printed
          (0x02 ∷ 0x01 ∷ 0x00 ∷ 0x01 ∷ 0x00 ∷ 0x00
          ∷ concat_below 9 (λ i. 0x09 ∷ 0x01 ∷ (i + 1) ∷ 0x00 ∷ 0x00 ∷ 0x00 ∷ []));
      expected =
          (1 ∷ sent ∷ 7 ∷ 0 ∷ [])
          ∷ (2 ∷ sent ∷ 6 ∷ 0 ∷ [])
          ∷ (3 ∷ sent ∷ 5 ∷ 0 ∷ [])
          ∷ (4 ∷ sent ∷ 4 ∷ 0 ∷ [])
          ∷ (5 ∷ sent ∷ 3 ∷ 0 ∷ [])
          ∷ (6 ∷ sent ∷ 2 ∷ 0 ∷ [])
          ∷ (7 ∷ sent ∷ 1 ∷ 0 ∷ [])
          ∷ (8 ∷ sent ∷ 0 ∷ 0 ∷ [])
          ∷ (9 ∷ refused ∷ 9 ∷ 0 ∷ [])
          ∷ (board ∷ 0 ∷ 0 ∷ [])
          ∷ (board ∷ 1 ∷ 0 ∷ [])
          ∷ (wire ∷ 0 ∷ 8 ∷ 1 ∷ 2 ∷ 3 ∷ 4 ∷ 5 ∷ 6 ∷ 7 ∷ 8 ∷ [])
          ∷ [];
    }
    -- "Take on an empty wire: 10."
    ∷ record {
      got = printed (0x02 ∷ 0x01 ∷ 0x00 ∷ 0x01 ∷ 0x00 ∷ 0x00 ∷ 0x01 ∷ 0x02 ∷ []);
      expected = (1 ∷ refused ∷ 10 ∷ 0 ∷ []) ∷ (board ∷ 0 ∷ 0 ∷ []) ∷ (board ∷ 1 ∷ 0 ∷ []) ∷ (wire ∷ 0 ∷ 0 ∷ []) ∷ [];
    }
    -- "Finish with 0 stores of current: cut, restart gives the old line. With 1: the new."
    ∷ record {
      got =
          then_serves input 12 (calling Commit 0 ∷ recovering ∷ [])
          ++ then_serves input 12 (calling Commit 1 ∷ recovering ∷ []);
      expected =
          (13 ∷ power_lost ∷ 0 ∷ [])
          ∷ (14 ∷ line ∷ 0 ∷ 0 ∷ [])
          ∷ (board ∷ 0 ∷ 0 ∷ [])
          ∷ (board ∷ 1 ∷ 0 ∷ [])
          ∷ (wire ∷ 0 ∷ 0 ∷ [])
          ∷ (wire ∷ 1 ∷ 0 ∷ [])
          ∷ (13 ∷ done ∷ 1 ∷ [])
          ∷ (14 ∷ line ∷ 1 ∷ 0 ∷ [])
          ∷ (board ∷ 0 ∷ 0 ∷ [])
          ∷ (board ∷ 1 ∷ 0 ∷ [])
          ∷ (wire ∷ 0 ∷ 0 ∷ [])
          ∷ (wire ∷ 1 ∷ 1 ∷ 5 ∷ [])
          ∷ [];
    }
    -- "Begin above with 3: cut, 3 made. With 4: done."
    ∷ record {
      got =
          answer_line 1 (answer_in (after_steps input 0) Begin 3)
          ∷ answer_line 1 (answer_in (after_steps input 0) Begin 4) ∷
          [];
      expected = (1 ∷ power_lost ∷ 3 ∷ []) ∷ (1 ∷ done ∷ 4 ∷ []) ∷ [];
    }
    -- "Word 4,294,967,295, body 1", "taken from wire 0": "4,294,966,336"
    ∷ record { got = (enter 4294967295 (receipt 0 1) ∷ []) ∷ []; expected = (4294966336 ∷ []) ∷ [] }
    -- "Bodies 2, 3 from word 0", "taken from wire 0": "1,925"; "3, 2": "2,885"
    ∷ record {
      got = (replay 0 (receipt 0 2 ∷ receipt 0 3 ∷ []) ∷ []) ∷ (replay 0 (receipt 0 3 ∷ receipt 0 2 ∷ []) ∷ []) ∷ [];
      expected = (1925 ∷ []) ∷ (2885 ∷ []) ∷ [];
    }
    -- "From 0, body 5 from wire 0 and then wire 1 gives 4,841; the other order gives 34,601.": replayed, and taken
    ∷ record {
      got = (replay 0 (receipt 0 5 ∷ receipt 1 5 ∷ []) ∷ []) ∷ (replay 0 (receipt 1 5 ∷ receipt 0 5 ∷ []) ∷ []) ∷ [];
      expected = (4841 ∷ []) ∷ (34601 ∷ []) ∷ [];
    }
    ∷ record {
      got = printed (neighbours ++ (0x01 ∷ 0x02 ∷ 0x05 ∷ 0x02 ∷ 0x01 ∷ []));
      expected =
          (1 ∷ sent ∷ 7 ∷ 0 ∷ [])
          ∷ (2 ∷ sent ∷ 7 ∷ 0 ∷ [])
          ∷ (3 ∷ took ∷ 5 ∷ 0 ∷ [])
          ∷ (4 ∷ took ∷ 5 ∷ 0 ∷ [])
          ∷ (board ∷ 0 ∷ 4841 ∷ [])
          ∷ (board ∷ 1 ∷ 0 ∷ [])
          ∷ (board ∷ 2 ∷ 0 ∷ [])
          ∷ (wire ∷ 0 ∷ 0 ∷ [])
          ∷ (wire ∷ 1 ∷ 0 ∷ [])
          ∷ [];
    }
    ∷ record {
      got = printed (neighbours ++ (0x05 ∷ 0x02 ∷ 0x01 ∷ 0x01 ∷ 0x02 ∷ []));
      expected =
          (1 ∷ sent ∷ 7 ∷ 0 ∷ [])
          ∷ (2 ∷ sent ∷ 7 ∷ 0 ∷ [])
          ∷ (3 ∷ took ∷ 5 ∷ 0 ∷ [])
          ∷ (4 ∷ took ∷ 5 ∷ 0 ∷ [])
          ∷ (board ∷ 0 ∷ 34601 ∷ [])
          ∷ (board ∷ 1 ∷ 0 ∷ [])
          ∷ (board ∷ 2 ∷ 0 ∷ [])
          ∷ (wire ∷ 0 ∷ 0 ∷ [])
          ∷ (wire ∷ 1 ∷ 0 ∷ [])
          ∷ [];
    }
    -- "05 02 00 is 7; 01 02 takes wire 0." Take is kind 2.
    ∷ record {
      got =
          reading_numbers (read_record (0x05 ∷ 0x02 ∷ 0x00 ∷ []))
          ∷ reading_numbers (read_record (0x01 ∷ 0x02 ∷ [])) ∷ [];
      expected = (refused ∷ 7 ∷ []) ∷ (2 ∷ 0 ∷ 0 ∷ 0 ∷ []) ∷ [];
    }
    -- "Give up after step 6 above: 7 and 5 stay, both tagged 0."
    ∷ record {
      got = then_tags 7 (answer_in (after_steps input 6) Abort program.full_budget);
      expected =
          (7 ∷ done ∷ 0 ∷ [])
          ∷ (board ∷ 0 ∷ 0 ∷ [])
          ∷ (board ∷ 1 ∷ 0 ∷ [])
          ∷ (wire ∷ 0 ∷ message ∷ 7 ∷ 0 ∷ [])
          ∷ (wire ∷ 1 ∷ message ∷ 5 ∷ 0 ∷ [])
          ∷ [];
    }
    ∷ late_cases

-- each row gets what the papers expect, as one fact over the table
abbrev pub StarredHold : Type 0
StarredHold = map (λ (c : Case). c.got) starred ≡ map (λ (c : Case). c.expected) starred
