-- Opening accepts exactly the tables that docs/RULES.md, "The table file", describes. This is the description, as a record. proofs/WellFormed.antt
-- has what each line of the refusal list says where it is not given, and the theorem. Assumes nothing.
use Rattle.std.specs.Prelude.{◌≡◌, List, ℕ, suc, ◌+◌, ◌≤◌, ◌<◌, length}
use Rattle.recorder.specs.Block.{HasBit}
use Rattle.table.specs.Layout.{kind_of, states_of, edges_of, sets_of, rows_offset, targets_offset, marks_offset, rows_at, targets_at, marks_at, length_of, row_start, target, mark}
use Rattle.table.specs.Rows.{RowsRight}

pub record WellFormed (b : List ℕ) : Type 0 where
  pub header : 28 ≤ length b
  pub kind : kind_of b ≡ 1
  pub states_from : 1 ≤ states_of b
  pub states_to : states_of b ≤ 64
  pub edges_from : 1 ≤ edges_of b
  pub edges_to : edges_of b ≤ 1024
  pub sets_to : sets_of b ≤ 4
  pub rows_offset_is : rows_offset b ≡ rows_at
  pub targets_offset_is : targets_offset b ≡ targets_at (states_of b)
  pub marks_offset_is : marks_offset b ≡ marks_at (states_of b) (edges_of b)
  pub size : length b ≡ length_of (states_of b) (edges_of b)
  -- the first row start is 0, they never fall, the last is e
  pub rows : RowsRight b
  -- each target is below n, rising strictly within a row; no row is empty
  pub targets_in : (i : ℕ) → i < edges_of b → target b i < states_of b
  pub targets_rise : (s i : ℕ) → s < states_of b → row_start b s ≤ i → suc i < row_start b (suc s) → target b i < target b (suc i)
  pub no_empty : (s : ℕ) → s < states_of b → ¬ (row_start b s ≡ row_start b (suc s))
  -- bits past start, goal and the m sets are clear
  pub marks_clear : (s : ℕ) → s < states_of b → (i : ℕ) → 2 + sets_of b ≤ i → ¬ HasBit (mark b s) i
