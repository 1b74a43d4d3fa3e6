-- Which count is wrong: opening gives 3, 14 and 15 exactly where docs/RULES.md, "Refusal list", says. These are the words of the statements.
-- proofs/WhichCount.antt has that number and place tell a refusal, and the three statements. Assumes nothing.
use Rattle.std.specs.Prelude.{◌≡◌, ℕ, ◌≤◌, length, Err}
use mathlib.Core.List.{List}
use Rattle.table.specs.Layout.{kind_of}
use Rattle.table.specs.Refusals.{number_of, place_of}
use Rattle.table.specs.Open.{open_of}
use Rattle.table.specs.declared.refusal.Refusal.{Refusal}

-- the header of a client's table: lines 1 and 2 do not apply
abbrev pub ClientHeader : List ℕ → Type 0
ClientHeader b = (28 ≤ length b) × (kind_of b ≡ 1)

-- opening refuses the bytes with the number k and the place i
abbrev pub Gives : List ℕ → ℕ → ℕ → Type 0
Gives b k i = (r : Refusal) × ((open_of b ≡ Err r) × ((number_of r ≡ k) × (place_of r ≡ i)))
