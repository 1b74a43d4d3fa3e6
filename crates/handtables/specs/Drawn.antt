-- A table by its description, and its bytes. docs/RULES.md, "The table file" (the layout) and "Tables by hand" (the descriptions).
-- Definitions only. Assumes nothing.
use Rattle.std.specs.Prelude.{cond, List, [], ◌∷◌, ◌++◌, ℕ, suc, ◌+◌, ◌*◌, eqb, length}
use Rattle.table.specs.Layout.{little_endian, rows_at, targets_at, marks_at}

-- what stands in a description: for each state the states that it leads to, the start states, the states with the goal, and the
-- members of each fairness set
pub record Drawn : Type 0 where
  pub rows : List (List ℕ)
  pub starts : List ℕ
  pub goals : List ℕ
  pub sets : List (List ℕ)

-- the rows end to end
abbrev pub joined : List (List ℕ) → List ℕ
joined [] = []
joined (r ∷ rs) = r ++ joined rs

-- where each row starts, the first at k, and where the last one ends
abbrev pub row_starts : ℕ → List (List ℕ) → List ℕ
row_starts k [] = k ∷ []
row_starts k (r ∷ rs) = k ∷ row_starts (k + length r) rs

-- 1 where s is in the list, else 0
abbrev pub bit_in : ℕ → List ℕ → ℕ
bit_in s [] = 0
bit_in s (x ∷ xs) = cond (eqb s x) 1 (bit_in s xs)

-- bit i for set i
abbrev pub set_bits : ℕ → List (List ℕ) → ℕ
set_bits s [] = 0
set_bits s (set ∷ sets) = bit_in s set + 2 * set_bits s sets

-- bit 0 start, bit 1 goal, the sets from bit 2 on
abbrev pub drawn_mark : Drawn → ℕ → ℕ
drawn_mark d s = bit_in s d.starts + 2 * bit_in s d.goals + 4 * set_bits s d.sets

-- the marks of the states from s on, one for each row
abbrev pub marks_from : Drawn → ℕ → List (List ℕ) → List ℕ
marks_from d s [] = []
marks_from d s (r ∷ rs) = drawn_mark d s ∷ marks_from d (suc s) rs

-- n, e and m
abbrev pub states : Drawn → ℕ
states d = length d.rows

abbrev pub edges : Drawn → ℕ
edges d = length (joined d.rows)

abbrev pub set_count : Drawn → ℕ
set_count d = length d.sets

-- the file: header, row starts, targets, marks
unfoldable pub bytes_of : Drawn → List ℕ
bytes_of d =
    little_endian (1 ∷ states d ∷ edges d ∷ set_count d ∷ rows_at ∷ targets_at (states d) ∷ marks_at (states d) (edges d) ∷ [])
    ++ little_endian (row_starts 0 d.rows)
    ++ little_endian (joined d.rows)
    ++ marks_from d 0 d.rows
