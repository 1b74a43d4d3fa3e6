-- What the loop keeps.
use mathlib.Core.Path.{◌≡◌}
use mathlib.Core.List.{List}
use Prim.Native.Nat.{ℕ, suc, ◌-◌, ◌<◌}
use Rattle.table.specs.Layout.{target}
use Rattle.table.specs.Open.{target_wrong}
use Rattle.table.proofs.Scan.{Scanned}
use Rattle.opening.proofs.faults.wrong_in_row.Given as goal

pub record At (b : List ℕ) (from to least i : ℕ) : Type 0 where
  -- no target of the row before i is wrong
  pub scanned : Scanned from to (target_wrong b) i
  -- at the row's first place anything may stand, else more than the target before
  pub at_first : i ≡ from → least ≡ 0
  pub after : from < i → least ≡ suc (target b (i - 1))

abbrev pub invariant-loop-i : goal.invariant-loop-i
invariant-loop-i l = At l.bytes l.from l.to l.least l.i
