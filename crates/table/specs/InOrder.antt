-- The refusal list's order, and that every job goes down it. docs/RULES.md, "Refusal list": of the lines that apply, the first in the list is given.
-- The order is that of positions in the list, not of numbers: 14 and 15 stand straight after 3. proofs/InOrder.antt has the laws, over any list of
-- lines. Assumes nothing.
use Rattle.std.specs.Prelude.{◌≡◌, true, false, ◌⊎◌, List, [], ◌∷◌, ◌++◌, ℕ, suc, ◌≤◌, eqb, Option, None, Some}
use Rattle.table.specs.Given.{first_given}
use Rattle.table.specs.Refusals.{number_of}
use Rattle.table.specs.Open.{lines_of}
use Rattle.table.specs.declared.refusal.Refusal.{Refusal}

-- ---- the definitions

-- the numbers of the list, from its first line to its last
abbrev pub list_numbers : List ℕ
list_numbers = 1 ∷ 2 ∷ 3 ∷ 14 ∷ 15 ∷ 4 ∷ 5 ∷ 6 ∷ 7 ∷ 8 ∷ 9 ∷ 10 ∷ 11 ∷ 12 ∷ 13 ∷ []

-- how many numbers stand before x in the list
abbrev pub count_before : ℕ → List ℕ → ℕ
count_before x [] = 0
count_before x (y ∷ ys) = elim (eqb x y) [ true ↦ 0 | false ↦ suc (count_before x ys) ]

-- a refusal's position in the list
abbrev pub position_of : Refusal → ℕ
position_of r = count_before (number_of r) list_numbers

-- the position after it
abbrev pub position_after : Refusal → ℕ
position_after r = suc (position_of r)

-- the lines that are given stand in the list's order, all at position p or after it
pub data InOrderFrom : ℕ → List (Option Refusal) → Type 0 where
  end : {p : ℕ} → InOrderFrom p []
  off : {p : ℕ} {ls : List (Option Refusal)} → InOrderFrom p ls → InOrderFrom p (None ∷ ls)
  on : {p : ℕ} {r : Refusal} {ls : List (Option Refusal)} → p ≤ position_of r → InOrderFrom (position_after r) ls → InOrderFrom p (Some r ∷ ls)

-- r is given by one of the lines
abbrev pub GivenIn : Refusal → List (Option Refusal) → Type 0
GivenIn r [] = ⊥
GivenIn r (o ∷ ls) = (o ≡ Some r) ⊎ GivenIn r ls

-- the lines that are given stand in the list's order; said of every input, so two lines that can both be given can't be exchanged
abbrev pub InOrder : List (Option Refusal) → Type 0
InOrder ls = InOrderFrom 0 ls

-- the refusal of a job whose own lines come after the table's: those that are given stand in the list's order, and the first of them is the refusal
pub record ByTheList (b : List ℕ) (ls : List (Option Refusal)) (why : Option Refusal) : Type 0 where
  pub in_order : InOrder (lines_of b ++ ls)
  pub is_first : why ≡ first_given (lines_of b ++ ls)
