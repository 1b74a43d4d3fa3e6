-- The digits that the kit's `decimal` writes are the number in decimal. Assumes nothing.
use Rattle.std.specs.Prelude.{◌≡◌, refl, Bool, true, false, ℕ, zero, suc, ◌+◌, ◌-◌, ◌/◌, ◌^◌, ◌≤◌, ◌<◌, ltb, leb}
use Rattle.std.proofs.Common.{arith, lt-ltb, le-ltb, leb-true, leb-false, lit<}
use Rattle.io.specs.Digits.{last_digits, IsDigitCount}
use Rattle.lines.specs.Text.{digits_of, decimal_of}

one_at_least : (j : ℕ) → 1 ≤ 10 ^ j
one_at_least zero = omega arith
one_at_least (suc j) = omega (arith, one_at_least j)

-- the fewest digits are those without zeros in front
digits_fewest : (k f n : ℕ) → k < f → n < 10 ^ suc k → (0 < k → 10 ^ k ≤ n) → last_digits 10 (suc k) n ≡ digits_of f n
unfolding digits_of
digits_fewest k zero n h l g = absurd (omega arith)
digits_fewest zero (suc f) n h l g = let e : ltb n 10 ≡ true = lt-ltb n 10 (omega arith) in rw e refl
digits_fewest (suc j) (suc f) n h l g =
    let p : 10 ^ suc j ≤ n = g (omega arith) in
    let e : ltb n 10 ≡ false = le-ltb n 10 (omega (arith, one_at_least j)) in
    let i = digits_fewest j f (n / 10) (omega arith) (omega arith) (λ q. omega arith) in
    rw (e, i) refl

pub decimal_is : (n k : ℕ) → IsDigitCount 10 1 n k → k ≤ 20 → last_digits 10 k n ≡ decimal_of n
decimal_is n zero (a, b, c) h = absurd (omega arith)
decimal_is n (suc k) (a, b, c) h = digits_fewest k 20 n (omega arith) b (λ p. let e : suc k - 1 ≡ k = omega arith in rw e at c (omega arith))

-- ten to a power of 20 or more is past every number of 64 bits
past : (i j : ℕ) → j ≡ i + 20 → 2 ^ 64 < 10 ^ j
past zero j e = let f : j ≡ 20 = omega arith in rw f (lit< tt)
past (suc i) zero e = absurd (omega arith)
past (suc i) (suc j) e = let p = past i j (omega arith) in omega arith

-- so such a number has at most 20 digits
pub decimal_short : (n k : ℕ) → n < 2 ^ 64 → IsDigitCount 10 1 n k → k ≤ 20
decimal_short n k h (a, b, c) = go (leb k 20) refl
  where
    go : (x : Bool) → leb k 20 ≡ x → k ≤ 20
    go true e = leb-true k 20 e
    go false e = let l = leb-false k 20 e in let p = past (k - 21) (k - 1) (omega arith) in let q = c (omega arith) in absurd (omega arith)
