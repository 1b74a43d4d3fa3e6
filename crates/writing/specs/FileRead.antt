-- What a file made of rows and marks needs to be read back. proofs/FileRead.antt reads it with the table's own reading functions: its counts and
-- offsets, row starts, targets and marks; from s to s' there is an edge exactly if s' stands in row s; a row's targets rise where the row does.
-- docs/RULES.md, "The table file". Assumes nothing.
use Rattle.std.specs.Prelude.{◌≡◌, ℕ, suc, ◌<◌, get_or}
use mathlib.Core.List.{List}
use Rattle.std.proofs.Math.ListN.{length}
use Rattle.table.specs.Layout.{marks_at}
use Rattle.writing.specs.File.{start_in}

-- x stands somewhere in the list
abbrev pub Stands : List ℕ → ℕ → Type 0
Stands xs x = (j : ℕ) × (j < length xs) × (get_or xs j 0 ≡ x)

-- the numbers in the rows are states
abbrev pub RowsBelow : ℕ → (ℕ → List ℕ) → Type 0
RowsBelow n row = (s j : ℕ) → s < n → j < length (row s) → get_or (row s) j 0 < n

-- each row rises strictly
abbrev pub RowsStrict : ℕ → (ℕ → List ℕ) → Type 0
RowsStrict n row = (s j : ℕ) → s < n → suc j < length (row s) → get_or (row s) j 0 < get_or (row s) (suc j) 0

-- all numbers of the file fit in 32 bits: the last offset is the largest
pub record NumbersFit (kind m n : ℕ) (row : ℕ → List ℕ) : Type 0 where
  pub kind_fits : kind < 4294967296
  pub sets_fit : m < 4294967296
  pub offsets_fit : marks_at n (start_in row n) < 4294967296
  pub below : RowsBelow n row
