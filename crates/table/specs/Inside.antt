-- What a reading function asks: that the place that it reads stands inside the bytes, by the counts that it is given. proofs/Inside.antt has the laws
-- by which a caller has these three statements. Assumes nothing.
use Rattle.std.specs.Prelude.{◌≡◌, List, ℕ, ◌+◌, ◌*◌, ◌≤◌, ◌<◌, length}
use Rattle.table.specs.Layout.{states_of, edges_of, rows_at, targets_at, marks_at}
use Rattle.table.specs.declared.Table.{Table}

-- row start s
pub record RowInside (b : List ℕ) (s : ℕ) : Type 0 where
  pub inside : rows_at + 4 * s + 4 ≤ length b

-- target i
pub record TargetInside (b : List ℕ) (t : Table) (i : ℕ) : Type 0 where
  pub states_are : t.states ≡ states_of b
  pub inside : targets_at t.states + 4 * i + 4 ≤ length b

-- the marks of state s
pub record MarkInside (b : List ℕ) (t : Table) (s : ℕ) : Type 0 where
  pub states_are : t.states ≡ states_of b
  pub edges_are : t.edges ≡ edges_of b
  pub inside : marks_at t.states t.edges + s < length b
