-- Laws of what is counted of a read. Assumes nothing.
use Rattle.std.specs.Prelude.{◌≡◌, refl, List, ℕ, zero, suc, ◌+◌, ◌-◌, ◌≤◌, length, take, drop, Result, Ok}
use Rattle.std.specs.declared.io.Error.{Error}
use Rattle.std.proofs.Common.{arith, length-drop, length-take-le}
use Rattle.streams.specs.Counted.{part_of, PartCounts}
use Rattle.streams.specs.declared.Part.{Part}
use Rattle.streams.specs.declared.Part.TheVariants.{Bytes, End, Interrupted, Failed}

-- what came into the rest of a buffer, after so many bytes, fits in the buffer
pub part_fits : (bytes : List ℕ) (done : ℕ) (r : Part) (n : ℕ) → done ≤ length bytes → r ≡ Bytes n
    → PartCounts r (length (take (length bytes - done) (drop done bytes))) → done + n ≤ length bytes
part_fits bytes done r n h e c =
    let l = length-take-le (length bytes - done) (drop done bytes) (omega (arith, length-drop done bytes)) in
    let k = rw e at c in
    omega arith

-- a read that did not fail and brought bytes tells them
pub part_came : (read : Result ℕ Error) (n : ℕ) → read ≡ Ok n → (n ≡ 0 → ⊥) → Bytes n ≡ part_of read
part_came read zero e h = absurd (h refl)
part_came read (suc n) e h = rw e refl

-- what counts in less room counts in more
pub part_counts : (r : Part) (n room : ℕ) → n ≤ room → PartCounts r n → PartCounts r room
part_counts (Bytes k) n room h (some, most) = (some, omega arith)
part_counts End n room h c = tt
part_counts (Interrupted reason) n room h c = tt
part_counts (Failed reason) n room h c = tt
