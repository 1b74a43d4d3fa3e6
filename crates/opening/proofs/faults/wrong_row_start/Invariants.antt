-- What the loop keeps.
use mathlib.Core.Path.{◌≡◌}
use mathlib.Core.List.{List}
use Prim.Native.Nat.{ℕ, suc, ◌+◌, ◌-◌, ◌≤◌, ◌<◌}
use Rattle.table.specs.Layout.{states_of, edges_of, row_start}
use Rattle.opening.proofs.faults.wrong_row_start.Given as goal

pub record At (b : List ℕ) (before i : ℕ) : Type 0 where
  pub from : 1 ≤ i
  pub to : i ≤ states_of b + 1
  -- the row start before i
  pub before-is : before ≡ row_start b (i - 1)
  -- of those before i: the first is 0, they never fall, and none is above e
  pub first : row_start b 0 ≡ 0
  pub rises : (j : ℕ) → suc j < i → row_start b j ≤ row_start b (suc j)
  pub below : (j : ℕ) → j < i → row_start b j ≤ edges_of b

abbrev pub invariant-loop-i : goal.invariant-loop-i
invariant-loop-i l = At l.bytes l.before l.i
