-- After s states it has counted those of the first s that set i holds.
use mathlib.Core.Path.{◌≡◌, refl, sym, ap, ap₂, ◌∙◌}
use mathlib.Core.Bool.{cond}
use mathlib.Core.List.{List}
use Prim.Native.Nat.{ℕ, zero, suc, ◌+◌, ◌*◌, ◌/◌, ◌%◌, ◌^◌, ◌<◌}
use native.Mathlib.Nat.{mod-lt}
use native.Mathlib.Numerals.{add-one}
use native.Mathlib.Omega.{arith}
use lib.Dec.{eqb}
use lib.Pow.{pow_pos}
use Rattle.recorder.proofs.Fits.{one_shl}
use Rattle.table.specs.Layout.{states_of}
use Rattle.table.specs.BlockOf.{block_of}
use Rattle.table.proofs.Inside.{mark_inside}
use Rattle.quote.specs.Members.{count_below, members_of}
use Rattle.quote.proofs.members.count.Invariants.{holds, At}
use Rattle.quote.proofs.members.count.Goals as goal

-- a bit is 1 exactly where the test passes
bit_is : (x : ℕ) → x < 2 → x ≡ cond (eqb x 1) 1 0
bit_is zero h = refl
bit_is (suc zero) h = refl
bit_is (suc (suc x)) h = absurd (omega arith)

-- one more state
one_more : (b : List ℕ) (i unit found s sets : ℕ) → At b i unit found s → sets ≡ (block_of b).fair s → At b i unit (found + sets / unit % 2) (s + 1)
unfolding count_below
one_more b i unit found s sets k es =
    let P = holds (block_of b) i in
    let eu = k.unit-is in
    let bit : sets / unit % 2 < 2 = mod-lt _ (omega arith) in
    let same : sets / unit % 2 ≡ (block_of b).fair s / 2 ^ i % 2 = cc in
    record {
      unit-is = eu;
      counted = ap₂ ◌+◌ k.counted (same ∙ bit_is _ (mod-lt _ (omega arith))) ∙ sym (ap (λ (j : ℕ). count_below j P) (add-one s));
      small = omega (arith, k.small);
    }

pub loop-s-init : goal.loop-s-init
unfolding count_below
loop-s-init c = record { unit-is = one_shl c.args.i (omega arith); counted = refl; small = omega arith }

pub fair-requires : goal.fair-requires
fair-requires c = mark_inside _ _ c.requires.laid_out _ c.loop-s-test.true

pub nonzero_div-found : goal.nonzero_div-found
nonzero_div-found c = omega (arith, c.loop-s.invariant.unit-is, pow_pos c.args.i)

pub overflow_add-found : goal.overflow_add-found
overflow_add-found c = omega (arith, mod-lt (c.fair.result / (1 * 2 ^ c.args.i % 2 ^ 64)) {m = 2} (omega arith))

pub loop-s-preserved : goal.loop-s-preserved
loop-s-preserved c = one_more c.args.bytes.now _ _ _ _ _ c.loop-s.invariant c.fair.ensures

pub returns : goal.returns
unfolding members_of block_of
returns c =
    let e : c.loop-s.s ≡ states_of c.args.bytes.now = omega arith in
    c.loop-s.invariant.counted ∙ ap (λ (k : ℕ). count_below k (holds (block_of c.args.bytes.now) c.args.i)) e
