-- A list of lines of which the first that is given is the answer: docs/RULES.md, "Refusal list". Over any type of answer. proofs/Given.antt has the
-- laws for going down such a list. Assumes nothing.
use Rattle.std.specs.Prelude.{Bool, true, false, List, [], ◌∷◌, ℕ, Option, None, Some}

-- a line: its answer, where the test passes
abbrev pub given : {A : Type 0} → Bool → A → Option A
given true r = Some r
given false r = None

-- a line whose place is the first such index
abbrev pub given_at : {A : Type 0} → Option ℕ → (ℕ → A) → Option A
given_at None r = None
given_at (Some i) r = Some (r i)

-- the first line that is given
abbrev pub first_given : {A : Type 0} → List (Option A) → Option A
first_given [] = None
first_given (None ∷ rs) = first_given rs
first_given (Some r ∷ rs) = Some r
