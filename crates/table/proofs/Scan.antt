-- A scan that stops at the first index at which a test passes: what it knows at index i, and what it finds. One law for each way a scan goes on
-- or ends. Assumes nothing.
use Rattle.std.specs.Prelude.{◌≡◌, Bool, true, false, ℕ, ◌+◌, ◌≤◌, ◌<◌, None, Some}
use Rattle.std.proofs.Math.Decide.{dec_lt}
use Rattle.std.proofs.Common.{sym, arith}
use Rattle.table.specs.First.{first_in}
use Rattle.table.proofs.First.{first_some, first_none}

pub record Scanned (lo hi : ℕ) (P : ℕ → Bool) (i : ℕ) : Type 0 where
  pub from : lo ≤ i
  pub to : i ≤ hi
  -- the test passed at no index before i
  pub none : (j : ℕ) → lo ≤ j → j < i → P j ≡ false

module _ {lo hi : ℕ} {P : ℕ → Bool} where
  pub scan_begins : lo ≤ hi → Scanned lo hi P lo
  scan_begins h = record { from = omega arith; to = h; none = λ j l k. absurd (omega arith) }

  -- nothing up to k, so the scan may go on from k
  pub scan_on : {i : ℕ} (k : ℕ) → Scanned lo hi P i → i ≤ k → k ≤ hi → ((j : ℕ) → i ≤ j → j < k → P j ≡ false) → Scanned lo hi P k
  scan_on {i} k s h l n = record { from = omega (arith, s.from); to = l; none = λ j p q. go j p q (dec_lt j i) }
    where
      go : (j : ℕ) → lo ≤ j → j < k → Dec (j < i) → P j ≡ false
      go j p q (yes r) = s.none j p r
      go j p q (no r) = n j (omega arith) q

  -- the test fails at i
  pub scan_goes_on : {i : ℕ} → Scanned lo hi P i → i < hi → P i ≡ false → Scanned lo hi P (i + 1)
  scan_goes_on {i} s h e = scan_on (i + 1) s (omega arith) (omega arith) (λ j p q. let d : j ≡ i = omega arith in rw d e)

  -- the test passes at i
  pub scan_first : {i : ℕ} → Scanned lo hi P i → i < hi → P i ≡ true → first_in lo hi P ≡ Some i
  scan_first {i} s h e = (first_some lo hi P i).1 (record { from = s.from; below = h; passes = e; before = s.none })

  -- the indices are at an end
  pub scan_none : {i : ℕ} → Scanned lo hi P i → hi ≤ i → first_in lo hi P ≡ None
  scan_none {i} s h = (first_none lo hi P).1 (λ j p q. s.none j p (omega (arith, h)))

  -- the same as the code answers
  pub scan_finds : {i : ℕ} → Scanned lo hi P i → i < hi → P i ≡ true → Some i ≡ first_in lo hi P
  scan_finds s h e = sym (scan_first s h e)

  pub scan_ends : {i : ℕ} → Scanned lo hi P i → hi ≤ i → None ≡ first_in lo hi P
  scan_ends s h = sym (scan_none s h)

  -- a scan of the part from i to k answers: it found one, or there is none in that part
  pub part_finds : {i k x : ℕ} → Scanned lo hi P i → k ≤ hi → Some x ≡ first_in i k P → Some x ≡ first_in lo hi P
  part_finds {i} {k} {x} s h e =
      let f = (first_some i k P x).0 (sym e) in
      let t = scan_on x s f.from (omega (arith, f.below)) f.before in
      scan_finds t (omega (arith, f.below)) f.passes

  pub part_ends : {i k : ℕ} → Scanned lo hi P i → i ≤ k → k ≤ hi → None ≡ first_in i k P → Scanned lo hi P k
  part_ends {i} {k} s l h e = scan_on k s l h ((first_none i k P).0 (sym e))
