-- What is said of the row starts: they rise, and lines 5 and 6 rest on them. proofs/Rows.antt has what follows: every target stands in a row, and
-- which targets open one. Assumes nothing.
use Rattle.std.specs.Prelude.{◌≡◌, List, ℕ, suc, ◌≤◌, ◌<◌}
use Rattle.table.specs.Layout.{states_of, edges_of, row_start}

-- they never fall
abbrev pub RowsRise : List ℕ → Type 0
RowsRise b = (s : ℕ) → s < states_of b → row_start b s ≤ row_start b (suc s)

-- what line 5 asks: the first is 0, they never fall, the last is e
pub record RowsRight (b : List ℕ) : Type 0 where
  pub first_row : row_start b 0 ≡ 0
  pub rows_rise : RowsRise b
  pub last_row : row_start b (states_of b) ≡ edges_of b
