-- A number's bits from a place on are clear exactly where it is below that power of two. Assumes nothing.
use Rattle.std.specs.Prelude.{◌≡◌, ◌↔◌, ℕ, ◌+◌, ◌*◌, ◌/◌, ◌^◌, ◌≤◌, ◌<◌}
use Rattle.std.proofs.Math.Nat.{div-eq_of_lt}
use Rattle.std.proofs.Common.{div-lt_iff_lt-mul, lt_of_lt_of_le, arith, pow_pos, pow_mono, shr-shr}
use Rattle.std.proofs.Math.Arith.{bin_ind}
use Rattle.recorder.specs.Block.{HasBit}

-- bit i of v without its low k bits is bit k + i of v
high_bit : (v k i : ℕ) → HasBit (v / 2 ^ k) i → HasBit v (k + i)
high_bit v k i h = rw (← shr-shr v k i) h

-- a number without a bit is 0
no_bits : (v : ℕ) → ((i : ℕ) → ¬ HasBit v i) → v ≡ 0
no_bits = bin_ind (λ (v : ℕ). ((i : ℕ) → ¬ HasBit v i) → v ≡ 0) (λ h. omega arith) step
  where
    step : (v : ℕ) → (((i : ℕ) → ¬ HasBit (v / 2) i) → v / 2 ≡ 0) → ((i : ℕ) → ¬ HasBit v i) → v ≡ 0
    step v ih h = let half : v / 2 ≡ 0 = ih (λ i b. h (1 + i) (high_bit v 1 i b)) in omega (arith, h 0)

pub low_bits : (v k : ℕ) → (v < 2 ^ k) ↔ ((i : ℕ) → k ≤ i → ¬ HasBit v i)
low_bits v k = (to, from)
  where
    to : v < 2 ^ k → (i : ℕ) → k ≤ i → ¬ HasBit v i
    to h i l b = let z : v / 2 ^ i ≡ 0 = div-eq_of_lt (lt_of_lt_of_le h (pow_mono l)) in omega arith

    from : ((i : ℕ) → k ≤ i → ¬ HasBit v i) → v < 2 ^ k
    from h =
        let z : v / 2 ^ k ≡ 0 = no_bits (v / 2 ^ k) (λ i b. h (k + i) (omega arith) (high_bit v k i b)) in
        let l : v < 1 * 2 ^ k = (div-lt_iff_lt-mul (pow_pos k)).0 (omega arith) in
        omega arith
