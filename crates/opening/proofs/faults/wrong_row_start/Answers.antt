-- At index i the row starts before it are right but for "the last is e", which is tested
-- after the loop.
use mathlib.Core.Path.{◌≡◌, refl, ap, ◌∙◌}
use mathlib.Core.Bool.{false}
use mathlib.Core.Logic.{inl, inr}
use mathlib.Core.List.{List}
use Prim.Native.Nat.{ℕ, suc, ◌+◌, ◌-◌, ◌≤◌, ◌<◌}
use native.Mathlib.Decide.{dec_lt}
use native.Mathlib.Omega.{arith}
use Rattle.table.specs.Layout.{states_of, edges_of, row_start}
use Rattle.table.specs.Open.{row_start_wrong}
use Rattle.table.proofs.Rows.{start_says, start_wrong}
use Rattle.table.proofs.Scan.{Scanned, scan_begins, scan_on}
use Rattle.table.proofs.Scan.{scan_finds, scan_ends}
use Rattle.opening.proofs.faults.wrong_row_start.Invariants.{At}
use Rattle.opening.proofs.faults.wrong_row_start.Goals as goal

-- so each of them but the last of all is right
right : (b : List ℕ) (before i : ℕ) → At b before i → (j : ℕ) → j < i → (j ≡ states_of b → row_start b j ≡ edges_of b) → row_start_wrong b j ≡ false
right b before i k j l last = (start_says b j).1 (record {
  first = λ e. ap (row_start b) e ∙ k.first;
  rises = λ h. let p : suc (j - 1) ≡ j = omega arith in rw p at (k.rises (j - 1) (omega arith));
  below = k.below j l;
  last = last;
})

-- and a scan for a wrong one has come to i, or to the last of all
scanned : (b : List ℕ) (before i : ℕ) → At b before i → (j : ℕ) → j ≤ i → j ≤ states_of b → Scanned 0 (states_of b + 1) (row_start_wrong b) j
scanned b before i k j l h = scan_on j (scan_begins (omega arith)) (omega arith) (omega arith) (λ x p q. right b before i k x (omega arith) (λ e. absurd (omega arith)))

-- one more row start that does not fall and is not above e
one_more : (b : List ℕ) (before start i : ℕ) → At b before i → i ≤ states_of b → start ≡ row_start b i → before ≤ start → start ≤ edges_of b
    → At b start (i + 1)
one_more b before start i k h e f g = record {
  from = omega arith;
  to = omega arith;
  before-is = let p : i ≡ i + 1 - 1 = omega arith in e ∙ ap (row_start b) p;
  first = k.first;
  rises = λ j l. go j (dec_lt (suc j) i) l;
  below = λ j l. low j (dec_lt j i) l;
}
  where
    go : (j : ℕ) → Dec (suc j < i) → suc j < i + 1 → row_start b j ≤ row_start b (suc j)
    go j (yes q) l = k.rises j q
    go j (no q) l =
        let p : suc j ≡ i = omega arith in
        let r : j ≡ i - 1 = omega arith in
        omega (arith, k.before-is, ap (row_start b) p, ap (row_start b) r)

    low : (j : ℕ) → Dec (j < i) → j < i + 1 → row_start b j ≤ edges_of b
    low j (yes q) l = k.below j q
    low j (no q) l = let p : j ≡ i = omega arith in omega (arith, ap (row_start b) p)

pub returns-then-before-ne0 : goal.returns-then-before-ne0
returns-then-before-ne0 c = scan_finds (scan_begins (omega arith)) (omega arith) (start_wrong c.args.bytes.now 0 (λ r. omega (arith, r.first refl)))

pub loop-i-init : goal.loop-i-init
loop-i-init c =
    record {
      from = omega arith;
      to = omega arith;
      before-is = c.row_start-before.ensures;
      first = omega arith;
      rises = λ j l. absurd (omega arith);
      below = λ j l. let p : j ≡ 0 = omega arith in omega (arith, ap (row_start c.args.bytes.now) p);
    }

pub returns-then-start-before : goal.returns-then-start-before
returns-then-start-before c =
    scan_finds (scanned c.args.bytes.now _ _ c.loop-i.invariant c.loop-i.i (omega arith) (omega arith)) (omega arith) (elim c.then-start-before.either [
      | inl l ↦ start_wrong c.args.bytes.now c.loop-i.i (λ r. omega (arith, r.rises (λ e. omega arith)))
      | inr (g, h) ↦ start_wrong c.args.bytes.now c.loop-i.i (λ r. omega (arith, r.below))
    ])

pub loop-i-preserved : goal.loop-i-preserved
loop-i-preserved c = one_more c.args.bytes.now _ _ _ c.loop-i.invariant (omega arith) c.row_start-start.ensures c.if-start-before.false (omega arith)

pub returns-else-before-t : goal.returns-else-before-t
returns-else-before-t c =
    let p : c.loop-i.i - 1 ≡ c.args.t.states = omega arith in
    scan_finds (scanned c.args.bytes.now _ _ c.loop-i.invariant c.args.t.states (omega arith) (omega arith)) (omega arith)
    (start_wrong c.args.bytes.now c.args.t.states (λ r. omega (arith, r.last (omega arith), c.loop-i.invariant.before-is, ap (row_start c.args.bytes.now) p)))

pub returns-then-before-t : goal.returns-then-before-t
returns-then-before-t c =
    let s = scanned c.args.bytes.now _ _ c.loop-i.invariant (states_of c.args.bytes.now) (omega arith) (omega arith) in
    scan_ends (scan_on (states_of c.args.bytes.now + 1) s (omega arith) (omega arith) (λ j p q. right c.args.bytes.now _ _ c.loop-i.invariant j (omega arith) (λ e.
    let d : j ≡ c.loop-i.i - 1 = omega arith in
    omega (arith, c.loop-i.invariant.before-is, ap (row_start c.args.bytes.now) d)))) (omega arith)
