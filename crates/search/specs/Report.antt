-- What is reported of a word of numbers: the states of its letters, and how many letters are odd. docs/RULES.md, "Lasso and choice": place i has the
-- number 2·si, plus 1 where i ≤ l. So of a lasso's numbers, but for the last, these are s0..sk and l + 1; proofs/Report.antt has the laws. Assumes
-- nothing.
use Rattle.std.specs.Prelude.{List, [], ◌∷◌, map, ℕ, ◌+◌, ◌/◌, ◌%◌}
use Rattle.order.specs.Word.{Word}

-- the states of a word's letters
unfoldable pub halves : Word → List ℕ
halves w = map (λ a. a / 2) w

-- how many of its letters are odd
unfoldable pub odds : Word → ℕ
odds [] = 0
odds (a ∷ w) = a % 2 + odds w
