-- A table with some bytes changed. Assumes nothing.
use Rattle.std.specs.Prelude.{List, ℕ, fold, slice_set}

-- the table, and of each change (at, x) in turn the byte at `at` is x; a change past the end changes nothing
unfoldable pub changed : List ℕ → List (ℕ × ℕ) → List ℕ
changed table changes = fold (λ bytes change. slice_set bytes change.0 change.1) table changes
