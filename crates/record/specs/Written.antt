-- What the writer answers.
use Rattle.std.specs.Prelude.{ℕ, ◌-◌, List, ◌++◌, length, take, replicate}
use Rattle.model.specs.declared.Record.{Record}
use Rattle.model.specs.Record.{write_record}
use Rattle.record.specs.declared.Written.{Written}

-- the longest record is a send: map, kind, channel and 4 bytes of body
abbrev pub longest : ℕ
longest = 7

-- bytes and their number, with 0 in the places after them
unfoldable pub holding : List ℕ → Written
holding bytes = record { bytes = bytes ++ replicate (longest - length bytes) 0; count = length bytes }

-- the bytes held, as many as their number says
abbrev pub bytes_of : Written → List ℕ
bytes_of w = take w.count w.bytes

-- "the writer answers its bytes and their number and refuses no step"
unfoldable pub written : Record → Written
written r = holding (write_record r)
