-- The words of the theorem, in proofs/Formed.antt, that a table that is made of rows and marks within the limits of docs/RULES.md, "The table file",
-- and written in its layout, is one that opening accepts, with the edges of its rows and with its marks. Assumes nothing.
use Rattle.std.specs.Prelude.{◌≡◌, true, ◌↔◌, List, ℕ, ◌+◌, ◌^◌, ◌≤◌, ◌<◌, length}
use Rattle.table.specs.Layout.{states_of, edges_of, sets_of, mark}
use Rattle.table.specs.BlockOf.{block_of}
use Rattle.writing.specs.File.{start_in}
use Rattle.writing.specs.FileRead.{Stands, RowsBelow, RowsStrict}

-- n rows and marks within the limits: n from 1 to 64, at most 4 sets and 1,024 targets; rows rise strictly and hold states; bits past start, goal and
-- the m sets are clear
pub record InLimits (m n : ℕ) (row : ℕ → List ℕ) (marks : ℕ → ℕ) : Type 0 where
  pub states_from : 1 ≤ n
  pub states_to : n ≤ 64
  pub sets_to : m ≤ 4
  pub edges_to : start_in row n ≤ 1024
  pub below : RowsBelow n row
  pub strict : RowsStrict n row
  pub marks_below : (s : ℕ) → s < n → marks s < 2 ^ (2 + m)

-- the table b has n states, m sets, the edges of the rows and the marks
pub record Has (m n : ℕ) (row : ℕ → List ℕ) (marks : ℕ → ℕ) (b : List ℕ) : Type 0 where
  pub states_are : states_of b ≡ n
  pub edges_are : edges_of b ≡ start_in row n
  pub sets_are : sets_of b ≡ m
  -- from s to s' there is an edge exactly if s is a state and s' stands in its row
  pub rows_are : (s s' : ℕ) → ((block_of b).edge s s' ≡ true) ↔ ((s < n) × Stands (row s) s')
  pub marks_are : (s : ℕ) → s < n → mark b s ≡ marks s

-- no row is empty
abbrev pub NoneEmpty : ℕ → (ℕ → List ℕ) → Type 0
NoneEmpty n row = (s : ℕ) → s < n → 1 ≤ length (row s)
