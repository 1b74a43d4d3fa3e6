-- What the loop keeps.
use mathlib.Core.Path.{◌≡◌}
use mathlib.Core.List.{List}
use Prim.Native.Nat.{ℕ, ◌≤◌}
use Rattle.table.specs.Layout.{states_of, edges_of, row_start}
use Rattle.table.specs.Open.{target_wrong}
use Rattle.table.proofs.Scan.{Scanned}
use Rattle.opening.proofs.faults.wrong_target.Given as goal

pub record At (b : List ℕ) (from s : ℕ) : Type 0 where
  pub to : s ≤ states_of b
  -- where the row of s starts
  pub from_is : from ≡ row_start b s
  -- no target before that row is wrong
  pub scanned : Scanned 0 (edges_of b) (target_wrong b) from

abbrev pub invariant-loop-s : goal.invariant-loop-s
invariant-loop-s l = At l.bytes l.from l.s
