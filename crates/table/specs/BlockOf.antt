-- The block that an accepted table is. docs/RULES.md, "The table file": rows, targets and marks. Definitions only. Assumes nothing.
use Rattle.std.specs.Prelude.{is_some, ◌&&◌, List, ℕ, suc, ◌/◌, ◌%◌, eqb, ltb, Option}
use Rattle.recorder.specs.Block.{Block}
use Rattle.table.specs.First.{first_in}
use Rattle.table.specs.Layout.{states_of, sets_of, row_start, target, mark}

-- the place in the targets of the edge from s to s': the first target s' in the row of s
unfoldable pub edge_at : List ℕ → ℕ → ℕ → Option ℕ
edge_at b s s' = first_in (row_start b s) (row_start b (suc s)) (λ i. eqb (target b i) s')

-- s to s' is an edge; bit 0 of a mark is start, bit 1 goal, and the bits from 2 on are those of the sets from 0 on
unfoldable pub block_of : List ℕ → Block
block_of b = record {
  n = states_of b;
  m = sets_of b;
  edge = λ s s'. ltb s (states_of b) && is_some (edge_at b s s');
  start = λ s. eqb (mark b s % 2) 1;
  goal = λ s. eqb (mark b s / 2 % 2) 1;
  fair = λ s. mark b s / 4;
}
