-- The block of a well-formed table is sound: edges and starts are states, and no mark names a set that is not below m.
-- Assumes nothing.
use Rattle.std.specs.Prelude.{◌≡◌, true, ◌↔◌, List, ℕ, suc, ◌+◌, ◌%◌, ◌^◌, ◌≤◌, ◌<◌}
use mathlib.Core.Logic.Iff
use Rattle.std.proofs.Math.Decide.{dec_lt}
use Rattle.std.proofs.Common.{arith}
use Rattle.std.proofs.Math.ListN.{get_or-eq_default}
use Rattle.std.proofs.Math.Pow.{pow-add}
use Rattle.recorder.specs.Block.{Sound}
use Rattle.table.proofs.First.{some_in}
use Rattle.table.specs.Layout.{states_of, sets_of, row_start, target, mark}
use Rattle.table.specs.BlockOf.{edge_at, block_of}
use Rattle.table.proofs.Bits.{low_bits}
use Rattle.table.proofs.Facts.{facts}
use Rattle.table.proofs.Facts.{eqb_passes}
use Rattle.table.proofs.Rows.{row_starts_to}
use Rattle.table.specs.WellFormed.{WellFormed}

-- an edge is a target in the row
pub edge_is : (b : List ℕ) (s s' : ℕ)
    → ((block_of b).edge s s' ≡ true) ↔ ((s < states_of b) × ((i : ℕ) × (row_start b s ≤ i) × (i < row_start b (suc s)) × (target b i ≡ s')))
unfolding block_of edge_at
edge_is b s s' = simp (facts, some_in) Iff.rfl

module _ (b : List ℕ) (w : WellFormed b) where
  -- past the last state there are no marks: the bytes end
  no_mark : (s : ℕ) → states_of b ≤ s → mark b s ≡ 0
  unfolding mark
  no_mark s h = get_or-eq_default b 0 (omega arith)

  mark_below : (s : ℕ) → s < states_of b → mark b s < 2 ^ (2 + sets_of b)
  mark_below s l = (low_bits (mark b s) (2 + sets_of b)).1 (w.marks_clear s l)

  pub sound : Sound (block_of b)
  unfolding block_of
  sound = record {
    edge_in = λ s s' e.
        let (l, (i, f, g, q)) = (edge_is b s s').0 e in
        let p : target b i < states_of b = w.targets_in i (omega (arith, row_starts_to b w.rows (suc s) l)) in
        (l, omega arith);
    start_in = λ s e. start_in s ((eqb_passes (mark b s % 2) 1).0 e) (dec_lt s (states_of b));
    fair_in = λ s l. omega (arith, mark_below s l, pow-add 2 2 (sets_of b));
  }
    where
      start_in : (s : ℕ) → mark b s % 2 ≡ 1 → Dec (s < states_of b) → s < states_of b
      start_in s e (yes h) = h
      start_in s e (no h) = absurd (omega (arith, no_mark s (omega arith)))
