-- Laws of the targets: which of them open a row, and what line 6 of the refusal list says where it is not given. Assumes nothing.
use Rattle.std.specs.Prelude.{◌≡◌, refl, true, false, ◌↔◌, List, ℕ, suc, ◌-◌, ◌≤◌, ◌<◌, eqb, None}
use Rattle.std.proofs.Common.{sym, ◌∙◌, zero-le, arith, eq-eqb, ne_eqb}
use Rattle.std.proofs.Math.Decide.{dec_lt}
use Rattle.table.specs.First.{first_in}
use Rattle.table.proofs.First.{first_none, some_in}
use Rattle.table.specs.Layout.{states_of, edges_of, row_start, target}
use Rattle.table.specs.Open.{opens_row, target_wrong}
use Rattle.table.proofs.Facts.{facts}
use Rattle.table.proofs.Facts.{passes_if_not_fails}
use Rattle.table.specs.Rows.{RowsRight}
use Rattle.table.proofs.Rows.{row_starts_rise, row_starts_to, row_of, opens_no_row}

-- ---- line 6 at one index

pub record TargetRight (b : List ℕ) (i : ℕ) : Type 0 where
  pub below : target b i < states_of b
  pub rises : opens_row b i ≡ false → target b (i - 1) < target b i

pub target_says : (b : List ℕ) (i : ℕ) → (target_wrong b i ≡ false) ↔ TargetRight b i
unfolding target_wrong
target_says b i = simp facts (λ h. record { below = h.0; rises = h.1 }, λ r. (r.below, r.rises))

pub target_wrong_lem : (b : List ℕ) (i : ℕ) → ¬ TargetRight b i → target_wrong b i ≡ true
target_wrong_lem b i h = passes_if_not_fails (target_wrong b i) (λ e. h ((target_says b i).0 e))

-- ---- which targets open a row

-- a row starts at its first target
opens_row_lem : (b : List ℕ) (s : ℕ) → s < states_of b → opens_row b (row_start b s) ≡ true
unfolding opens_row
opens_row_lem b s l = (some_in 0 (states_of b) _).1 (s, zero-le, l, eq-eqb (row_start b s) (row_start b s) refl)

module _ (b : List ℕ) (r : RowsRight b) where
  -- a target that stands in a row after another opens no row
  inside_opens_none : (s i : ℕ) → s < states_of b → row_start b s ≤ i → suc i < row_start b (suc s) → opens_row b (suc i) ≡ false
  inside_opens_none s i l f g = (opens_no_row b (suc i)).1 (λ s' l' e. go s' l' e (dec_lt s s'))
    where
      go : (s' : ℕ) → s' < states_of b → row_start b s' ≡ suc i → Dec (s < s') → ⊥
      go s' l' e (yes h) = omega (arith, row_starts_rise b r.rows_rise (suc s) s' h (omega arith))
      go s' l' e (no h) = omega (arith, row_starts_rise b r.rows_rise s' s (omega arith) (omega arith))

  -- of the targets of a row just the first opens one
  pub first_opens : (s i : ℕ) → s < states_of b → row_start b s ≤ i → i < row_start b (suc s) → opens_row b i ≡ eqb i (row_start b s)
  first_opens s i l f g = go (dec_lt (row_start b s) i)
    where
      go : Dec (row_start b s < i) → opens_row b i ≡ eqb i (row_start b s)
      go (yes h) =
          let p : suc (i - 1) ≡ i = omega arith in
          let q : opens_row b i ≡ false = rw p at (inside_opens_none s (i - 1) l (omega arith) (omega arith)) in
          q ∙ sym (ne_eqb i (row_start b s) (λ e. omega arith))
      go (no h) = let p : i ≡ row_start b s = omega arith in rw p (opens_row_lem b s l ∙ sym (eq-eqb (row_start b s) (row_start b s) refl))

  -- ---- line 6 is given nowhere exactly where each target is below n and they rise strictly within a row

  pub targets_right : (first_in 0 (edges_of b) (target_wrong b) ≡ None)
      ↔ (((i : ℕ) → i < edges_of b → target b i < states_of b)
      × ((s i : ℕ) → s < states_of b → row_start b s ≤ i → suc i < row_start b (suc s) → target b i < target b (suc i)))
  targets_right = simp (first_none, target_says) (λ h. (λ i l. (h i zero-le l).below, to h), λ h i z l. record { below = h.0 i l; rises = from h.1 i l (row_of b r i l) })
    where
      to : ((i : ℕ) → 0 ≤ i → i < edges_of b → TargetRight b i)
          → (s i : ℕ) → s < states_of b → row_start b s ≤ i → suc i < row_start b (suc s) → target b i < target b (suc i)
      to h s i l f g =
          let below : suc i < edges_of b = omega (arith, row_starts_to b r (suc s) l) in
          let p : suc i - 1 ≡ i = omega arith in
          rw p at ((h (suc i) zero-le below).rises (inside_opens_none s i l f g))

      from : ((s i : ℕ) → s < states_of b → row_start b s ≤ i → suc i < row_start b (suc s) → target b i < target b (suc i))
          → (i : ℕ) → i < edges_of b → (s : ℕ) × (s < states_of b) × (row_start b s ≤ i) × (i < row_start b (suc s))
          → opens_row b i ≡ false → target b (i - 1) < target b i
      from h i l (s, p, f, g) e =
          let q : row_start b s < i = omega (arith, (opens_no_row b i).0 e s p) in
          let r : suc (i - 1) ≡ i = omega arith in
          rw r at (h s (i - 1) p (omega arith) (omega arith))
