-- The definitions, tried on table e of docs/RULES.md, "Tables by hand": 0→0, 0→1, 1→1, set 0 = {1}. Its rows and marks are within the limits, and its
-- file is this one. Assumes nothing.
use Rattle.std.specs.Prelude.{◌≡◌, refl, List, [], ◌∷◌, ◌++◌, ℕ, zero, suc, ◌<◌, length, get_or}
use Rattle.std.proofs.Common.{arith}
use Rattle.table.specs.Layout.{little_endian}
use Rattle.writing.specs.File.{listed, join_to, file_with}
use Rattle.writing.specs.Formed.{InLimits, NoneEmpty}

row_e : ℕ → List ℕ
row_e zero = 0 ∷ 1 ∷ []
row_e (suc s) = 1 ∷ []

mark_e : ℕ → ℕ
mark_e zero = 1
mark_e (suc s) = 4

file_of_e : file_with 1 1 2 row_e mark_e ≡ little_endian (1 ∷ 2 ∷ 3 ∷ 1 ∷ 28 ∷ 40 ∷ 52 ∷ 0 ∷ 2 ∷ 3 ∷ 0 ∷ 1 ∷ 1 ∷ []) ++ (1 ∷ 4 ∷ [])
unfolding file_with listed join_to row_e mark_e
file_of_e = refl

limits_of_e : InLimits 1 2 row_e mark_e
unfolding join_to row_e mark_e
limits_of_e = record {
  states_from = omega arith;
  states_to = omega arith;
  sets_to = omega arith;
  edges_to = omega arith;
  below = below;
  strict = strict;
  marks_below = marks_below;
}
  where
    below : (s j : ℕ) → s < 2 → j < length (row_e s) → get_or (row_e s) j 0 < 2
    below zero zero h l = omega arith
    below zero (suc zero) h l = omega arith
    below zero (suc (suc j)) h l = absurd (omega arith)
    below (suc s) zero h l = omega arith
    below (suc s) (suc j) h l = absurd (omega arith)

    strict : (s j : ℕ) → s < 2 → suc j < length (row_e s) → get_or (row_e s) j 0 < get_or (row_e s) (suc j) 0
    strict zero zero h l = omega arith
    strict zero (suc j) h l = absurd (omega arith)
    strict (suc s) j h l = absurd (omega arith)

    marks_below : (s : ℕ) → s < 2 → mark_e s < 8
    marks_below zero h = omega arith
    marks_below (suc s) h = omega arith

none_empty_of_e : NoneEmpty 2 row_e
unfolding row_e
none_empty_of_e zero h = omega arith
none_empty_of_e (suc s) h = omega arith
