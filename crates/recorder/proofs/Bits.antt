-- The bits of a number: of `bit_or`, and of 2^m - 1.
-- Assumes nothing.
use Rattle.std.specs.Prelude.{◌≡◌, ◌↔◌, ◌⊎◌, ℕ, zero, suc, ◌-◌, ◌/◌, ◌%◌, ◌^◌, ◌<◌, max}
use Rattle.std.proofs.Common.{sym, ap, ◌∙◌, inl, inr, suc-le-suc, le_of_suc-le-suc, mod-lt, arith, one-add, pow_pos, shr-shr}
use Rattle.std.proofs.Math.Arith.{digits_mod}
use Rattle.std.specs.Int.Bits.{bit_or, or_step}
use Rattle.std.proofs.lemmas.Nat.{or_shr}
use Rattle.recorder.specs.Block.{HasBit}

-- the lowest bit of an `or`, as a number
or_low : (a b : ℕ) → bit_or a b % 2 ≡ max (a % 2) (b % 2)
or_low a b = rw (or_step a b) (digits_mod _ (omega arith))

or_bit : (a b i : ℕ) → bit_or a b / 2 ^ i % 2 ≡ max (a / 2 ^ i % 2) (b / 2 ^ i % 2)
or_bit a b i = rw or_shr (or_low _ _)

one_of : (p q : ℕ) → p < 2 → max p q ≡ 1 → (p ≡ 1) ⊎ (q ≡ 1)
one_of zero q h e = inr (omega arith)
one_of (suc p) q h e = inl (omega arith)

-- bit i of `bit_or a b` is set where it is set in a or in b
pub has_or : (a b i : ℕ) → HasBit (bit_or a b) i ↔ (HasBit a i ⊎ HasBit b i)
has_or a b i = (λ h. one_of _ _ (mod-lt _ (omega arith)) (sym (or_bit a b i) ∙ h), back)
  where
    back : HasBit a i ⊎ HasBit b i → HasBit (bit_or a b) i
    back (inl h) = rw or_bit (omega arith)
    back (inr h) = rw or_bit (omega arith)

-- bit i + 1 is bit i of the half
has_half : (v i : ℕ) → v / 2 ^ suc i % 2 ≡ v / 2 / 2 ^ i % 2
has_half v i = ap (λ (x : ℕ). x % 2) (ap (λ (x : ℕ). v / 2 ^ x) (sym (one-add i)) ∙ sym (shr-shr v 1 i))

-- a number below 2^m is 2^m - 1 where every bit below m is set
pub all_set : (m v : ℕ) → v ≡ 2 ^ m - 1 → (i : ℕ) → i < m → HasBit v i
all_set zero v e i h = absurd (omega arith)
all_set (suc m) v e zero h = omega (arith, pow_pos m)
all_set (suc m) v e (suc i) h = rw has_half (all_set m (v / 2) (omega (arith, pow_pos m)) i (le_of_suc-le-suc h))

pub set_all : (m v : ℕ) → v < 2 ^ m → ((i : ℕ) → i < m → HasBit v i) → v ≡ 2 ^ m - 1
set_all zero v l h = omega arith
set_all (suc m) v l h =
    let half : v / 2 ≡ 2 ^ m - 1 = set_all m (v / 2) (omega arith) (λ i k. rw has_half at (h (suc i) (suc-le-suc k))) in
    let odd : HasBit v 0 = h 0 (omega arith) in
    omega (arith, pow_pos m)

pub full : (m v : ℕ) → v < 2 ^ m → (v ≡ 2 ^ m - 1) ↔ ((i : ℕ) → i < m → HasBit v i)
full m v l = (all_set m v, set_all m v l)
