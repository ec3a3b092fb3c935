-- How many bytes the texts have at most. Every number that is printed is a `u32` of the code.
use Rattle.std.specs.Prelude.{ℕ, ◌+◌, ◌*◌, min}

-- `4294967295`
abbrev pub number_bytes : ℕ
number_bytes = 10

-- a space and a number
abbrev pub value_bytes : ℕ
value_bytes = 1 + number_bytes

-- `took 4294967295` and `line 4294967295`; the count after `sent` and a refusal's number are bytes
abbrev pub said_bytes : ℕ
said_bytes = 4 + value_bytes

-- a request's line: its number and a space, what is said of it, the writes made, and the line's end
abbrev pub line_bytes : ℕ
line_bytes = number_bytes + 1 + said_bytes + value_bytes + 1

-- a line that opens with a name of so many bytes, and has so many numbers
abbrev pub named_bytes : ℕ → ℕ → ℕ
named_bytes name numbers = name + numbers * value_bytes + 1

abbrev pub plan_refused_bytes : ℕ
plan_refused_bytes = named_bytes 12 1

abbrev pub process_bytes : ℕ
process_bytes = named_bytes 5 2

-- a channel's: its number, the count of its messages, and their bodies, no more than it has entries; and the count of
-- its entries is a byte
abbrev pub channel_bytes : ℕ → ℕ
channel_bytes entries = named_bytes 4 (2 + min 255 entries)

abbrev pub cell_bytes : ℕ
cell_bytes = named_bytes 4 2

-- so many bytes in hexadecimal: two digits and a space each
abbrev pub hex_bytes_bytes : ℕ → ℕ
hex_bytes_bytes k = 3 * k

-- a reduced list's lines, with so many bytes shown
abbrev pub plan_line_bytes : ℕ → ℕ
plan_line_bytes k = hex_bytes_bytes k + 1

abbrev pub call_bytes : ℕ → ℕ
call_bytes k = hex_bytes_bytes k + 3 + number_bytes

abbrev pub kept_bytes : ℕ → ℕ
kept_bytes k = call_bytes k + 1

abbrev pub sent_bytes : ℕ → ℕ
sent_bytes k = call_bytes k + named_bytes 5 1

abbrev pub last_bytes : ℕ → ℕ
last_bytes k = call_bytes k + named_bytes 8 1

abbrev pub refused_bytes : ℕ
refused_bytes = named_bytes 7 1
