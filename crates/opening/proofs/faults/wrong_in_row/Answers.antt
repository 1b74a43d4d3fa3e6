-- `least` is the least target that may stand at i: anything at the row's first place, else
-- more than the one before.
use mathlib.Core.Path.{◌≡◌, refl, sym, ap, ◌∙◌}
use mathlib.Core.Bool.{false}
use mathlib.Core.Logic.{inl, inr}
use mathlib.Core.List.{List}
use Prim.Native.Nat.{ℕ, ◌+◌, ◌-◌, ◌≤◌, ◌<◌}
use native.Mathlib.Omega.{arith}
use lib.Arith.{lt_of_le-ne}
use lib.Dec.{eqb}
use borrow.Author.Tests.{eqb-false, ne_eqb}
use Rattle.table.specs.Layout.{states_of, target}
use Rattle.table.specs.Open.{opens_row}
use Rattle.table.proofs.Targets.{TargetRight, target_says, target_wrong_lem}
use Rattle.table.proofs.Scan.{scan_begins, scan_goes_on}
use Rattle.table.proofs.Scan.{scan_finds, scan_ends}
use Rattle.opening.proofs.faults.wrong_in_row.Invariants.{At}
use Rattle.opening.proofs.faults.wrong_in_row.Goals as goal

-- the row: of its targets just the first opens one
abbrev Row : List ℕ → ℕ → ℕ → Type 0
Row b from to = (i : ℕ) → from ≤ i → i < to → opens_row b i ≡ eqb i from

-- a target below `least` does not rise
below-least : (b : List ℕ) (from to least i : ℕ) → Row b from to → At b from to least i → i < to → target b i < least → ¬ TargetRight b i
below-least b from to least i row k h l r =
    let p : from < i = lt_of_le-ne k.scanned.from (λ e. omega (arith, k.at_first (sym e))) in
    let q : opens_row b i ≡ false = row i (omega arith) h ∙ ne_eqb i from (λ e. omega arith) in
    omega (arith, r.rises q, k.after p)

-- one from `least` on, and below n, is right
right : (b : List ℕ) (from to least i : ℕ) → Row b from to → At b from to least i → i < to → least ≤ target b i → target b i < states_of b → TargetRight b i
right b from to least i row k h l g = record {
  below = g;
  rises = λ e.
      let d = eqb-false i from (sym (row i k.scanned.from h) ∙ e) in
      let p : from < i = omega (arith, k.scanned.from) in
      omega (arith, k.after p);
}

pub loop-i-init : goal.loop-i-init
loop-i-init c = record { scanned = scan_begins (omega arith); at_first = λ e. refl; after = λ h. absurd (omega arith) }

pub returns-then-x-least : goal.returns-then-x-least
returns-then-x-least c =
    scan_finds c.loop-i.invariant.scanned c.loop-i-test.true (elim c.then-x-least.either [
      | inl l ↦ target_wrong_lem c.args.bytes.now c.loop-i.i (below-least _ _ _ c.loop-i.least _ c.requires.by_index c.loop-i.invariant c.loop-i-test.true (omega arith))
      | inr (g, h) ↦ target_wrong_lem c.args.bytes.now c.loop-i.i (λ r. omega (arith, r.below))
    ])

pub loop-i-preserved : goal.loop-i-preserved
loop-i-preserved c =
    let p : c.loop-i.i + 1 - 1 ≡ c.loop-i.i = omega arith in
    record {
      scanned = scan_goes_on c.loop-i.invariant.scanned c.loop-i-test.true ((target_says c.args.bytes.now c.loop-i.i).1 (right c.args.bytes.now _ _ c.loop-i.least _ c.requires.by_index c.loop-i.invariant c.loop-i-test.true (omega arith) (omega arith)));
      at_first = λ e. absurd (omega (arith, c.loop-i.invariant.scanned.from));
      after = λ q. omega (arith, ap (target c.args.bytes.now) p);
    }

pub returns : goal.returns
returns c = scan_ends c.loop-i.invariant.scanned (omega arith)
