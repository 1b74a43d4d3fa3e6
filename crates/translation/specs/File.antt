-- The translated table as a file. docs/RULES.md, "Translated table": kind 2, m written 0, one state for each slot,
-- in the layout of "The table file". By any flag R; the contracts say `live_flag`. Definitions only. Assumes nothing.
use Rattle.std.specs.Prelude.{Bool, true, false, cond, ◌&&◌, List, [], ◌∷◌, ◌++◌, ℕ, zero, suc, ◌+◌, ◌-◌, ◌*◌, eqb, length}
use Rattle.recorder.specs.Flag.{Flag}
use Rattle.recorder.specs.Recorder.{start_of, bad_of, unsaved}
use Rattle.recorder.specs.Slots.{bit_of}
use Rattle.recorder.specs.SlotGraph.{at, slot}
use Rattle.table.specs.Layout.{target}
use Rattle.table.specs.BlockOf.{block_of}
use Rattle.table.specs.Recording.{slots_of, next_of, state_of, from_of, to_of}
use Rattle.writing.specs.File.{join_to, file_with}

-- ---- the targets

-- what slot p leads to along an edge to s', rising: the step that saves, and where nothing is saved the other one too
abbrev pub along_of : Flag → List ℕ → ℕ → ℕ → List ℕ
along_of R b p s' = next_of R b p s' true ∷ cond (unsaved (block_of b) (at (block_of b) p).t) (next_of R b p s' false ∷ []) []

-- the same along k targets from target i on
unfoldable pub along_from : Flag → List ℕ → ℕ → ℕ → ℕ → List ℕ
along_from R b p i zero = []
along_from R b p i (suc k) = along_of R b p (target b i) ++ along_from R b p (suc i) k

-- the row of slot p: along all targets of its state
unfoldable pub row_of : Flag → List ℕ → ℕ → List ℕ
row_of R b p = along_from R b p (from_of b p) (to_of b p - from_of b p)

-- the rows of the slots below p, one after the other
abbrev pub targets_to : Flag → List ℕ → ℕ → List ℕ
targets_to R b p = join_to (row_of R b) p

-- ---- the row starts and the marks

-- where the row of slot p starts
abbrev pub start_of_row : Flag → List ℕ → ℕ → ℕ
start_of_row R b p = length (targets_to R b p)

-- slot p is the slot of a start record
unfoldable pub is_start : Flag → List ℕ → ℕ → Bool
is_start R b p = (block_of b).start (state_of b p) && eqb p (slot (block_of b) (start_of R (block_of b) (state_of b p)))

-- bit 0 start, bit 1 the goal mark of s, bit 6 bad
unfoldable pub slot_mark : Flag → List ℕ → ℕ → ℕ
slot_mark R b p = bit_of (is_start R b p) + 2 * bit_of ((block_of b).goal (state_of b p)) + 64 * bit_of (bad_of (block_of b) (at (block_of b) p))

-- ---- the file

-- kind 2, m written 0, and a row and a mark for each slot
unfoldable pub file_of : Flag → List ℕ → List ℕ
file_of R b = file_with 2 0 (slots_of b) (row_of R b) (slot_mark R b)
