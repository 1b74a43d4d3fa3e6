-- What the record's code needs of machine words: that 1 shifted by m is 2^m, and that with at most 64 states and 8 sets a slot number fits.
-- Assumes nothing.
use Rattle.std.specs.Prelude.{◌≡◌, ℕ, ◌+◌, ◌*◌, ◌%◌, ◌^◌, ◌≤◌, ◌<◌}
use Rattle.std.proofs.Common.{◌∙◌, mul-le-mul, one-mul, arith, pow_mono, shl_exact}
use Rattle.recorder.specs.Slots.{slot_count, slot_of, InRange}
use Rattle.recorder.proofs.Slots.{slot_below}
use Rattle.recorder.specs.declared.Record.{Record}

-- `1 << m`: the machine cuts the product to 64 bits
pub one_shl : (m : ℕ) → m < 64 → 1 * 2 ^ m % 2 ^ 64 ≡ 2 ^ m
one_shl m h = shl_exact {a = 1} 1 m 64 (omega arith) (omega arith) ∙ one-mul (2 ^ m)

-- there are not many slots
pub count_small : (n m : ℕ) → n ≤ 64 → m ≤ 8 → slot_count n m ≤ 64 * 65 * 2 ^ 9
unfolding slot_count
count_small n m hn hm =
    let h : n + 1 ≤ 65 = omega arith in
    let k : m + 1 ≤ 9 = omega arith in
    mul-le-mul (mul-le-mul hn h) (pow_mono k)

-- the slot number of a record in range is small
pub slot_small : (n m : ℕ) (r : Record) → (n ≤ 64) × (m ≤ 8) × InRange n m r → slot_of n m r ≤ 64 * 65 * 2 ^ 9
slot_small n m r (hn, hm, ok) = let h = slot_below n m r ok in omega (arith, count_small n m hn hm)
