-- Where a table's numbers stand in its bytes. docs/RULES.md, "The table file". Definitions only. Assumes nothing.
use Rattle.std.specs.Prelude.{List, [], ◌∷◌, ℕ, ◌+◌, ◌*◌, ◌/◌, ◌%◌, get_or}
use Rattle.table.specs.declared.Table.{Table}

abbrev pub byte_at : List ℕ → ℕ → ℕ
byte_at b i = get_or b i 0

-- the little-endian 32-bit number that starts at index i
unfoldable pub word_at : List ℕ → ℕ → ℕ
word_at b i = byte_at b i + 256 * byte_at b (i + 1) + 65536 * byte_at b (i + 2) + 16777216 * byte_at b (i + 3)

-- and the other way: numbers as bytes, little-endian, 32 bits each
abbrev pub little_endian : List ℕ → List ℕ
little_endian [] = []
little_endian (x ∷ xs) = x % 256 ∷ (x / 256 % 256) ∷ (x / 65536 % 256) ∷ (x / 16777216 % 256) ∷ little_endian xs

-- ---- the header's seven numbers
abbrev pub kind_of : List ℕ → ℕ
kind_of b = word_at b 0

-- the states n
abbrev pub states_of : List ℕ → ℕ
states_of b = word_at b 4

-- the edges e
abbrev pub edges_of : List ℕ → ℕ
edges_of b = word_at b 8

-- the fairness sets m
abbrev pub sets_of : List ℕ → ℕ
sets_of b = word_at b 12

abbrev pub rows_offset : List ℕ → ℕ
rows_offset b = word_at b 16

abbrev pub targets_offset : List ℕ → ℕ
targets_offset b = word_at b 20

abbrev pub marks_offset : List ℕ → ℕ
marks_offset b = word_at b 24

-- ---- where the sections stand, and the length, by the counts: 28, then 28 + 4(n+1), then that plus 4e; 32 + 5n + 4e bytes
abbrev pub rows_at : ℕ
rows_at = 28

abbrev pub targets_at : ℕ → ℕ
targets_at n = rows_at + 4 * (n + 1)

abbrev pub marks_at : ℕ → ℕ → ℕ
marks_at n e = targets_at n + 4 * e

abbrev pub length_of : ℕ → ℕ → ℕ
length_of n e = 32 + 5 * n + 4 * e

-- ---- what the table holds: its counts and its three sections
abbrev pub table_of : List ℕ → Table
table_of b = record { states = states_of b; edges = edges_of b; sets = sets_of b }

-- row start s: the state s owns the targets from row start s up to, not including, row start s + 1
unfoldable pub row_start : List ℕ → ℕ → ℕ
row_start b s = word_at b (rows_at + 4 * s)

-- target i
unfoldable pub target : List ℕ → ℕ → ℕ
target b i = word_at b (targets_at (states_of b) + 4 * i)

-- the marks of the state s, one byte: bit 0 start, bit 1 goal, bits 2 to 5 fairness sets 0 to 3
unfoldable pub mark : List ℕ → ℕ → ℕ
mark b s = byte_at b (marks_at (states_of b) (edges_of b) + s)
