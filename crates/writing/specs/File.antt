-- A table as a file, from a row and a mark for each state. docs/RULES.md, "The table file": header, row starts, targets, marks.
-- Definitions only. Assumes nothing.
use Rattle.std.specs.Prelude.{List, [], ◌∷◌, ◌++◌, ℕ, zero, suc, length}
use Rattle.table.specs.Layout.{little_endian, rows_at, targets_at, marks_at}

-- f 0, f 1, .., f (k - 1)
unfoldable pub listed : (ℕ → ℕ) → ℕ → List ℕ
listed f zero = []
listed f (suc k) = listed f k ++ (f k ∷ [])

-- the rows below k, one after the other
unfoldable pub join_to : (ℕ → List ℕ) → ℕ → List ℕ
join_to row zero = []
join_to row (suc k) = join_to row k ++ row k

-- where row k starts among them
abbrev pub start_in : (ℕ → List ℕ) → ℕ → ℕ
start_in row k = length (join_to row k)

-- the seven numbers of the header: a kind, n states, e edges, m sets, and the three offsets
abbrev pub header_of : ℕ → ℕ → ℕ → ℕ → List ℕ
header_of kind n e m = kind ∷ n ∷ e ∷ m ∷ rows_at ∷ targets_at n ∷ marks_at n e ∷ []

-- the file of n states with these rows and marks; it has as many edges as the rows have targets
unfoldable pub file_with : (kind m n : ℕ) → (ℕ → List ℕ) → (ℕ → ℕ) → List ℕ
file_with kind m n row marks =
    little_endian (header_of kind n (start_in row n) m) ++ little_endian (listed (start_in row) (suc n)) ++ little_endian (join_to row n) ++ listed marks n
