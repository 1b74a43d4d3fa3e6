-- Bit 6 of a mark. proofs/MarksLaws.antt has that start, goal and bad of the translated file are the record's. docs/RULES.md, "Translated table": bit
-- 0 start, bit 1 the goal mark of s, bit 6 bad. By any flag R. Assumes nothing.
use Rattle.std.specs.Prelude.{Bool, List, ℕ, ◌/◌, ◌%◌}
use Rattle.std.proofs.Math.Dec.{eqb}
use Rattle.table.specs.Layout.{mark}

-- bit 6 of a mark: the slot is bad
unfoldable pub bad_in : List ℕ → ℕ → Bool
bad_in F p = eqb (mark F p / 64 % 2) 1
