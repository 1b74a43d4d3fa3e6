-- The first index at which a test passes. docs/RULES.md, "Refusal list" ("first such index", "first such state") and "Quote sheet" ("the first row
-- below"). proofs/First.antt has its laws. Assumes nothing.
use Rattle.std.specs.Prelude.{Bool, true, false, ℕ, zero, suc, ◌-◌, Option, None, Some}

-- the first of the k indices from i on at which the test P passes
unfoldable pub first_from : ℕ → (ℕ → Bool) → ℕ → Option ℕ
first_from zero P i = None
first_from (suc k) P i = elim (P i) [ true ↦ Some i | false ↦ first_from k P (suc i) ]

-- the first index from lo up to, not including, hi
unfoldable pub first_in : ℕ → ℕ → (ℕ → Bool) → Option ℕ
first_in lo hi P = first_from (hi - lo) P lo
