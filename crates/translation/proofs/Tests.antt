-- The definitions, tried on table c of docs/RULES.md, "Tables by hand": one state with a self edge. Its numbers stand in "Translated table".
-- Assumes nothing.
use Rattle.std.specs.Prelude.{◌≡◌, refl, List, [], ◌∷◌, ◌++◌, ℕ}
use Rattle.recorder.specs.Flag.{live_flag}
use Rattle.recorder.specs.Slots.{slot_count, slot_of, record_of_slot}
use Rattle.table.specs.First.{first_from, first_in}
use Rattle.table.specs.Layout.{little_endian, word_at, row_start, target, mark}
use Rattle.table.specs.BlockOf.{edge_at, block_of}
use Rattle.writing.specs.File.{listed, join_to, file_with}
use Rattle.translation.specs.File.{along_from, row_of, is_start, slot_mark, file_of}

-- 1, 1, 1, 0, 28, 36, 40; row starts 0, 1; target 0; mark 1
table_c : List ℕ
table_c = little_endian (1 ∷ 1 ∷ 1 ∷ 0 ∷ 28 ∷ 36 ∷ 40 ∷ 0 ∷ 1 ∷ 0 ∷ []) ++ (1 ∷ [])

file_of_c : file_of live_flag table_c
    ≡ little_endian (2 ∷ 4 ∷ 6 ∷ 0 ∷ 28 ∷ 48 ∷ 72 ∷ 0 ∷ 1 ∷ 2 ∷ 4 ∷ 6 ∷ 0 ∷ 1 ∷ 0 ∷ 2 ∷ 1 ∷ 3 ∷ []) ++ (64 ∷ 0 ∷ 1 ∷ 0 ∷ [])
unfolding file_of file_with listed join_to row_of along_from is_start slot_mark word_at row_start target mark block_of edge_at slot_count slot_of record_of_slot first_from first_in table_c
file_of_c = refl
