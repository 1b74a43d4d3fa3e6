-- What the lines of the refusal list from the first down to 4 leave: the counts are the header's and inside their ranges, and the length is theirs. The scans of
-- lines 5 to 8 need this to read inside the bytes. Assumes nothing.
use Rattle.std.specs.Prelude.{◌≡◌, List, ℕ, ◌≤◌, length}
use Rattle.table.specs.Layout.{states_of, edges_of, sets_of, length_of}
use Rattle.table.specs.declared.Table.{Table}

-- x is from low to high
abbrev pub FromTo : ℕ → ℕ → ℕ → Type 0
FromTo x low high = (low ≤ x) × (x ≤ high)

pub record LaidOut (b : List ℕ) (t : Table) : Type 0 where
  pub states_are : t.states ≡ states_of b
  pub edges_are : t.edges ≡ edges_of b
  pub sets_are : t.sets ≡ sets_of b
  pub states_from : 1 ≤ t.states
  pub states_to : t.states ≤ 64
  pub edges_from : 1 ≤ t.edges
  pub edges_to : t.edges ≤ 1024
  pub sets_to : t.sets ≤ 4
  pub size : length b ≡ length_of t.states t.edges
