-- What the loop keeps.
use mathlib.Core.Path.{◌≡◌}
use mathlib.Core.Bool.{Bool}
use mathlib.Core.List.{List}
use Prim.Native.Nat.{ℕ, ◌/◌, ◌%◌, ◌^◌, ◌≤◌}
use lib.Dec.{eqb}
use Rattle.recorder.specs.Block.{Block}
use Rattle.table.specs.BlockOf.{block_of}
use Rattle.quote.specs.Members.{count_below}
use Rattle.quote.proofs.members.count.Given as goal

-- set i holds state s
abbrev pub holds : Block → ℕ → ℕ → Bool
holds B i s = eqb (B.fair s / 2 ^ i % 2) 1

pub record At (b : List ℕ) (i unit found s : ℕ) : Type 0 where
  -- what the code divides by: the bit of set i
  pub unit-is : unit ≡ 2 ^ i
  -- how many of the states before s set i holds
  pub counted : found ≡ count_below s (holds (block_of b) i)
  pub small : found ≤ s

abbrev pub invariant-loop-s : goal.invariant-loop-s
invariant-loop-s l = At l.bytes l.i l.unit l.found l.s
