-- Document 01's listing, a line of each kind that it has none of, and a reduced list's lines, as one table: what the
-- definitions give, and the text. The theorem is proofs/Examples.antt.
use Rattle.std.specs.Prelude.{ℕ, ◌≡◌, List, [], ◌∷◌, ◌++◌, map}
use Prim.Native.String.{String}
use Rattle.model.specs.Outcome.{refused, cut}
use Rattle.model.specs.Program.{head}
use Rattle.model.specs.CaseInputs.{input}
use Rattle.report.specs.Text.{chars, said_line, cell_text, output_text}
use Rattle.report.specs.Hex.{plan_line_text, kept_text, sent_text, last_text, refused_text}

-- each line with its end
unfoldable pub lines : List String → List ℕ
lines [] = []
lines (l ∷ ls) = chars l ++ chars "\n" ++ lines ls

pub record Example : Type 0 where
  pub got : List ℕ
  pub expected : List ℕ

unfoldable pub examples : List Example
examples =
    -- the input above the listing
    record {
      got = output_text (head input);
      expected =
          lines
          ("1 done 4"
          ∷ "2 done 1"
          ∷ "3 done 1"
          ∷ "4 sent 7 0"
          ∷ "5 done 0"
          ∷ "6 sent 7 0"
          ∷ "7 took 7 0"
          ∷ "8 took 5 2"
          ∷ "9 done 0"
          ∷ "10 done 0"
          ∷ "11 note 0"
          ∷ "12 note 0"
          ∷ "13 done 1"
          ∷ "14 line 1 0"
          ∷ "board 0 0"
          ∷ "board 1 0"
          ∷ "wire 0 0"
          ∷ "wire 1 1 5"
          ∷ []);
    }
    -- a plan of one byte
    ∷ record { got = output_text (head (0x02 ∷ [])); expected = lines ("plan refused 7" ∷ []) }
    ∷ record { got = said_line 5 (refused 12) 0; expected = lines ("5 refused 12 0" ∷ []) }
    -- `drill` alone
    ∷ record { got = said_line 5 cut 3; expected = lines ("5 cut 3" ∷ []) }
    ∷ record { got = cell_text 3264 4294967295; expected = lines ("cell 3264 4294967295" ∷ []) }
    -- `console`: a plan, a kept send, another kept call and the last one, and where none is shown
    ∷ record {
      got =
          plan_line_text (0x02 ∷ 0x01 ∷ 0x00 ∷ 0x01 ∷ 0x00 ∷ 0x00 ∷ [])
          ++ sent_text (0x09 ∷ 0x01 ∷ 0x01 ∷ 0x00 ∷ 0x00 ∷ 0x00 ∷ []) 4 7
          ++ kept_text (0x01 ∷ 0x03 ∷ []) 5
          ++ last_text (0x05 ∷ 0x02 ∷ 0x01 ∷ []) 9 8;
      expected =
          lines
          ("02 01 00 01 00 00" ∷ "09 01 01 00 00 00 # 4 sent 7" ∷ "01 03 # 5" ∷ "05 02 01 # 9 refused 8" ∷ []);
    }
    ∷ record { got = kept_text (0xFA ∷ 0x9C ∷ []) 10; expected = lines ("FA 9C # 10" ∷ []) }
    ∷ record { got = refused_text 17; expected = lines ("refused 17" ∷ []) }
    ∷ []

-- each has the text that is expected, as one fact over the table
abbrev pub ExamplesHold : Type 0
ExamplesHold = map (λ (e : Example). e.got) examples ≡ map (λ (e : Example). e.expected) examples
