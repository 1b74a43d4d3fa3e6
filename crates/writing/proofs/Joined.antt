-- Rows end to end: where each starts, and that every number stands in the row that it came from. Assumes nothing.
use Rattle.std.specs.Prelude.{◌≡◌, ◌⊎◌, List, ◌++◌}
use Rattle.std.proofs.Common.{sym, ◌∙◌, inl, inr, eq-or-lt_of_le, le_of_eq}
use Rattle.std.proofs.Math.Path.{ap}
use Prim.Native.Nat.{ℕ, zero, suc, ◌+◌, ◌-◌, ◌≤◌, ◌<◌}
use Rattle.std.proofs.Math.Decide.{dec_lt}
use native.Mathlib.Omega.{arith}
use Rattle.std.proofs.Math.ListN.{length, get_or, length-append, get_or-append}
use Rattle.std.proofs.Math.Seq.{get_or-append-add}
use Rattle.writing.specs.File.{join_to, start_in}

module _ (row : ℕ → List ℕ) where
  -- the next row starts where this one ends
  pub join_step : (p : ℕ) → start_in row (suc p) ≡ start_in row p + length (row p)
  unfolding join_to
  join_step p = length-append (join_to row p) (row p)

  -- so the starts never fall
  pub join_rise : (p q : ℕ) → p ≤ q → start_in row p ≤ start_in row q
  join_rise p zero h = le_of_eq (ap (start_in row) (omega arith))
  join_rise p (suc q) h = go (eq-or-lt_of_le h) (join_rise p q)
    where
      go : (p ≡ suc q) ⊎ (p < suc q) → (p ≤ q → start_in row p ≤ start_in row q) → start_in row p ≤ start_in row (suc q)
      go (inl e) ih = le_of_eq (ap (start_in row) e)
      go (inr l) ih = omega (arith, ih (omega arith), join_step q)

  -- number i of the rows below k, where row p starts by i and ends after it
  pub in_row : (k p i : ℕ) → p < k → start_in row p ≤ i → i < start_in row (suc p) → get_or (join_to row k) i 0 ≡ get_or (row p) (i - start_in row p) 0
  unfolding join_to
  in_row zero p i h l g = absurd (omega arith)
  in_row (suc k) p i h l g = go (dec_lt p k) (λ q. in_row k p i q l g)
    where
      go : Dec (p < k) → (p < k → get_or (join_to row k) i 0 ≡ get_or (row p) (i - start_in row p) 0)
          → get_or (join_to row k ++ row k) i 0 ≡ get_or (row p) (i - start_in row p) 0
      go (yes q) ih = get_or-append (join_to row k) (row k) 0 i (omega (arith, join_rise (suc p) k q)) ∙ ih q
      go (no q) ih =
          let d : p ≡ k = omega arith in
          let e : i ≡ length (join_to row k) + (i - start_in row k) = omega (arith, ap (start_in row) d) in
          ap (λ (j : ℕ). get_or (join_to row k ++ row k) j 0) e
          ∙ get_or-append-add (join_to row k) (row k) (i - start_in row k) 0
          ∙ ap (λ (j : ℕ). get_or (row j) (i - start_in row j) 0) (sym d)

  -- each number stands in a row
  pub row_of : (k i : ℕ) → i < start_in row k → (p : ℕ) × (p < k) × (start_in row p ≤ i) × (i < start_in row (suc p))
  unfolding join_to
  row_of zero i h = absurd (omega arith)
  row_of (suc k) i h = go (dec_lt i (start_in row k)) (row_of k i)
    where
      go : Dec (i < start_in row k) → (i < start_in row k → (p : ℕ) × (p < k) × (start_in row p ≤ i) × (i < start_in row (suc p)))
          → (p : ℕ) × (p < suc k) × (start_in row p ≤ i) × (i < start_in row (suc p))
      go (yes q) ih = let (p, l, g, m) = ih q in (p, omega arith, g, m)
      go (no q) ih = (k, omega arith, omega arith, h)
