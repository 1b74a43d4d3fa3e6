-- What a table says of a block, apart from its bytes. docs/RULES.md, "The table file": states, starts, goal, fairness sets, edges.
-- Definitions only. Assumes nothing.
use Rattle.std.specs.Prelude.{◌≡◌, Bool, true, ℕ, ◌/◌, ◌%◌, ◌^◌, ◌<◌}

-- bit i of the number v is set
abbrev pub HasBit : ℕ → ℕ → Type 0
HasBit v i = v / 2 ^ i % 2 ≡ 1

-- n states and m fairness sets; bit i of `fair s` is set where set i holds the state s
pub record Block : Type 0 where
  pub n : ℕ
  pub m : ℕ
  pub edge : ℕ → ℕ → Bool
  pub start : ℕ → Bool
  pub goal : ℕ → Bool
  pub fair : ℕ → ℕ

-- what holds of every accepted table: edges and starts are states, and no mark names a set that is not below m
pub record Sound (B : Block) : Type 0 where
  pub edge_in : (s s' : ℕ) → B.edge s s' ≡ true → (s < B.n) × (s' < B.n)
  pub start_in : (s : ℕ) → B.start s ≡ true → s < B.n
  pub fair_in : (s : ℕ) → s < B.n → B.fair s < 2 ^ B.m
