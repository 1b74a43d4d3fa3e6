-- Laws of one row of a well-formed table: it is not empty, its targets rise, and an edge leads to just one of them. docs/RULES.md, "The table file".
-- Whoever follows a row from its first target to its last is told by the target where it stands what was passed. Assumes nothing.
use Rattle.std.specs.Prelude.{◌≡◌, refl, true, ◌⊎◌, List, ℕ, zero, suc, ◌-◌, ◌≤◌, ◌<◌}
use Rattle.std.proofs.Common.{ap, inl, inr, eq-or-lt_of_le, le_of_eq, arith}
use Rattle.std.proofs.Math.Decide.{dec_lt}
use Rattle.std.proofs.Math.Arith.{lt_of_le-ne}
use Rattle.table.specs.Layout.{states_of, edges_of, row_start, target}
use Rattle.table.specs.BlockOf.{block_of}
use Rattle.table.proofs.Rows.{row_starts_to}
use Rattle.table.specs.WellFormed.{WellFormed}
use Rattle.table.proofs.Sound.{edge_is}

module _ (b : List ℕ) (w : WellFormed b) (s : ℕ) (l : s < states_of b) where
  -- the row is not empty, and ends by e
  pub row_some : row_start b s < row_start b (suc s)
  row_some = lt_of_le-ne (w.rows.rows_rise s l) (w.no_empty s l)

  pub row_to_lem : row_start b (suc s) ≤ edges_of b
  row_to_lem = row_starts_to b w.rows (suc s) l

  -- its targets rise strictly
  pub row_rises_strictly : (j k : ℕ) → row_start b s ≤ j → j < k → k < row_start b (suc s) → target b j < target b k
  row_rises_strictly j zero f h t = absurd (omega arith)
  row_rises_strictly j (suc k) f h t = go (dec_lt j k) (λ p. row_rises_strictly j k f p (omega arith))
    where
      step : target b k < target b (suc k)
      step = w.targets_rise s k l (omega arith) t

      go : Dec (j < k) → (j < k → target b j < target b k) → target b j < target b (suc k)
      go (yes p) ih = omega (arith, ih p, step)
      go (no p) ih = let e : j ≡ k = omega arith in omega (arith, step, ap (target b) e)

  pub row_rises : (j k : ℕ) → row_start b s ≤ j → j ≤ k → k < row_start b (suc s) → target b j ≤ target b k
  row_rises j k f h t = go (eq-or-lt_of_le h)
    where
      go : (j ≡ k) ⊎ (j < k) → target b j ≤ target b k
      go (inl e) = le_of_eq (ap (target b) e)
      go (inr p) = omega (arith, row_rises_strictly j k f p t)

  -- each target is an edge
  pub row_edge : (i : ℕ) → row_start b s ≤ i → i < row_start b (suc s) → (block_of b).edge s (target b i) ≡ true
  row_edge i f t = (edge_is b s (target b i)).1 (l, (i, f, t, refl))

  -- an edge to a state below target i goes to a target before i
  pub row_gap : (i s' : ℕ) → row_start b s ≤ i → i < row_start b (suc s) → (block_of b).edge s s' ≡ true → s' < target b i
      → (row_start b s < i) × (s' ≤ target b (i - 1))
  row_gap i s' f t e h =
      let (_, (j, jf, jt, q)) = (edge_is b s s').0 e in
      let p : j < i = before j jf jt q (dec_lt j i) in
      (omega arith, omega (arith, row_rises j (i - 1) jf (omega arith) (omega arith)))
    where
      before : (j : ℕ) → row_start b s ≤ j → j < row_start b (suc s) → target b j ≡ s' → Dec (j < i) → j < i
      before j jf jt q (yes p) = p
      before j jf jt q (no p) = absurd (omega (arith, row_rises i j f (omega arith) jt))

  -- no edge goes past the last target
  pub row_last : (s' : ℕ) → (block_of b).edge s s' ≡ true → s' ≤ target b (row_start b (suc s) - 1)
  row_last s' e =
      let (_, (j, jf, jt, q)) = (edge_is b s s').0 e in
      omega (arith, row_rises j (row_start b (suc s) - 1) jf (omega arith) (omega arith))
