-- Laws of specs/Sizes.antt. Assumes nothing.
use Rattle.std.specs.Prelude.{◌≡◌, refl, cond, List, ℕ, zero, suc, ◌+◌, ◌*◌, ◌^◌, ◌≤◌, eqb}
use Rattle.std.proofs.Common.{mul-le-mul, arith, pow_mono, eq-eqb, ne_eqb}
use Rattle.recorder.specs.Slots.{slot_count}
use Rattle.recorder.proofs.Fits.{count_small}
use Rattle.table.specs.LaidOut.{LaidOut}
use Rattle.table.specs.declared.Table.{Table}
use Rattle.quote.specs.Sizes.{edge_count}

-- ---- where E comes from

-- f 0 + .. + f (k - 1)
abbrev pub sum_below : ℕ → (ℕ → ℕ) → ℕ
sum_below zero f = 0
sum_below (suc k) f = sum_below k f + f k

-- how many steps an edge gives a record that saved t: with nothing saved the two wishes lead apart, else they lead to one
abbrev pub steps_of : ℕ → ℕ → ℕ
steps_of n t = cond (eqb t n) 2 1

saved_steps : (n k : ℕ) → k ≤ n → sum_below k (steps_of n) ≡ k
saved_steps n zero h = refl
saved_steps n (suc k) h = rw (saved_steps n k (omega arith), ne_eqb k n (λ e. omega arith)) (omega arith)

-- each edge gives, for each flag and bits, the steps of every t that may be saved: 0 to n - 1, or n for nothing
pub edges_counted : (n e m : ℕ) → edge_count n e m ≡ e * sum_below (suc n) (steps_of n) * 2 ^ (m + 1)
unfolding edge_count
edges_counted n e m = rw (saved_steps n n (omega arith), eq-eqb n n refl)

-- with at most 64 states, 1,024 edges and 8 sets there are not many edges
pub edges_small : (n e m : ℕ) → n ≤ 64 → e ≤ 1024 → m ≤ 8 → edge_count n e m ≤ 1024 * 66 * 2 ^ 9
unfolding edge_count
edges_small n e m hn he hm =
    let h : n + 2 ≤ 66 = omega arith in
    let k : m + 1 ≤ 9 = omega arith in
    mul-le-mul (mul-le-mul he h) (pow_mono k)

-- the sizes of a table that is laid out are small
pub sizes_small : (b : List ℕ) (t : Table) → LaidOut b t → (slot_count t.states t.sets ≤ 64 * 65 * 2 ^ 9) × (edge_count t.states t.edges t.sets ≤ 1024 * 66 * 2 ^ 9)
sizes_small b t l =
    (count_small t.states t.sets l.states_to (omega (arith, l.sets_to)), edges_small t.states t.edges t.sets l.states_to l.edges_to (omega (arith, l.sets_to)))
