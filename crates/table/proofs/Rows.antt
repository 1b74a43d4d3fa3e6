-- Laws of specs/Rows.antt. Assumes nothing.
use Rattle.std.specs.Prelude.{◌≡◌, refl, true, false, ◌↔◌, ◌⊎◌, List, ℕ, zero, suc, ◌+◌, ◌-◌, ◌≤◌, ◌<◌, None}
use Rattle.std.proofs.Common.{ap, ◌∙◌, inl, inr, zero-le, eq-or-lt_of_le, le_of_eq, arith}
use Rattle.std.proofs.Math.Decide.{dec_lt}
use Rattle.table.specs.First.{first_in}
use Rattle.table.proofs.First.{first_none, none_in}
use Rattle.table.specs.Layout.{states_of, edges_of, row_start}
use Rattle.table.specs.Open.{opens_row, row_start_wrong}
use Rattle.table.proofs.Facts.{facts}
use Rattle.table.proofs.Facts.{passes_if_not_fails}
use Rattle.table.specs.Rows.{RowsRise, RowsRight}

pub row_starts_rise : (b : List ℕ) → RowsRise b → (s s' : ℕ) → s ≤ s' → s' ≤ states_of b → row_start b s ≤ row_start b s'
row_starts_rise b rises s zero l k = le_of_eq (ap (row_start b) (omega arith))
row_starts_rise b rises s (suc s') l k = go (eq-or-lt_of_le l) (row_starts_rise b rises s s')
  where
    go : (s ≡ suc s') ⊎ (s < suc s') → (s ≤ s' → s' ≤ states_of b → row_start b s ≤ row_start b s') → row_start b s ≤ row_start b (suc s')
    go (inl e) ih = le_of_eq (ap (row_start b) e)
    go (inr h) ih = omega (arith, ih (omega arith) (omega arith), rises s' k)

-- none is above e
pub row_starts_to : (b : List ℕ) → RowsRight b → (s : ℕ) → s ≤ states_of b → row_start b s ≤ edges_of b
row_starts_to b r s l = omega (arith, row_starts_rise b r.rows_rise s (states_of b) l (omega arith))

-- below row start k, a target stands in the row of a state below k
row_below : (b : List ℕ) → row_start b 0 ≡ 0 → (i k : ℕ) → i < row_start b k → (s : ℕ) × (s < k) × (row_start b s ≤ i) × (i < row_start b (suc s))
row_below b first i zero h = absurd (omega (arith, first))
row_below b first i (suc k) h = go (dec_lt i (row_start b k)) (row_below b first i k)
  where
    go : Dec (i < row_start b k) → (i < row_start b k → (s : ℕ) × (s < k) × (row_start b s ≤ i) × (i < row_start b (suc s)))
        → (s : ℕ) × (s < suc k) × (row_start b s ≤ i) × (i < row_start b (suc s))
    go (yes q) ih = let (s, p, l, r) = ih q in (s, omega arith, l, r)
    go (no q) ih = (k, omega arith, omega arith, h)

-- every target stands in a row
pub row_of : (b : List ℕ) → RowsRight b → (i : ℕ) → i < edges_of b → (s : ℕ) × (s < states_of b) × (row_start b s ≤ i) × (i < row_start b (suc s))
row_of b r i h = row_below b r.first_row i (states_of b) (omega (arith, r.last_row))

-- a target opens no row where no row starts at it
pub opens_no_row : (b : List ℕ) (i : ℕ) → (opens_row b i ≡ false) ↔ ((s : ℕ) → s < states_of b → ¬ (row_start b s ≡ i))
unfolding opens_row
opens_no_row b i = simp (none_in, facts) (λ h s l. h s zero-le l, λ h s z l. h s l)

-- row start i is right, as line 5 asks
pub record StartRight (b : List ℕ) (i : ℕ) : Type 0 where
  pub first : i ≡ 0 → row_start b i ≡ 0
  pub rises : ¬ (i ≡ 0) → row_start b (i - 1) ≤ row_start b i
  pub below : row_start b i ≤ edges_of b
  pub last : i ≡ states_of b → row_start b i ≡ edges_of b

pub start_says : (b : List ℕ) (i : ℕ) → (row_start_wrong b i ≡ false) ↔ StartRight b i
unfolding row_start_wrong
start_says b i =
    simp facts (
      λ h. record { first = h.0.0.0; rises = h.0.0.1; below = h.0.1; last = h.1 },
      λ r. (((r.first, r.rises), r.below), r.last),
    )

pub start_wrong : (b : List ℕ) (i : ℕ) → ¬ StartRight b i → row_start_wrong b i ≡ true
start_wrong b i h = passes_if_not_fails (row_start_wrong b i) (λ e. h ((start_says b i).0 e))

-- line 5 is given nowhere exactly where the first row start is 0, they never fall, and the last is e
pub row_starts_right : (b : List ℕ) → (first_in 0 (states_of b + 1) (row_start_wrong b) ≡ None) ↔ RowsRight b
row_starts_right b = simp (first_none, start_says) (to, λ h i z l. from h i (omega arith))
  where
    to : ((i : ℕ) → 0 ≤ i → i < states_of b + 1 → StartRight b i) → RowsRight b
    to h = record {
      first_row = (h 0 zero-le (omega arith)).first refl;
      rows_rise = λ s l. let p : suc s - 1 ≡ s = omega arith in rw p at ((h (suc s) zero-le (omega arith)).rises (λ e. omega arith));
      last_row = (h (states_of b) zero-le (omega arith)).last refl;
    }

    from : RowsRight b → (i : ℕ) → i ≤ states_of b → StartRight b i
    from r i l = record {
      first = λ e. ap (row_start b) e ∙ r.first_row;
      rises = λ p. row_starts_rise b r.rows_rise (i - 1) i (omega arith) l;
      below = row_starts_to b r i l;
      last = λ e. ap (row_start b) e ∙ r.last_row;
    }
