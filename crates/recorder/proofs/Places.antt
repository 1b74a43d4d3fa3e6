-- Laws of specs/Places.antt. Assumes nothing.
use Rattle.std.specs.Prelude.{◌≡◌, refl, Bool, true, false, cond, ◌⊎◌, List, ℕ, zero, suc, ◌^◌, ◌<◌, ◌≤◌, leb, length}
use Rattle.std.proofs.Common.{ap, ◌∙◌, inl, inr, le_of_suc-le-suc, eq-or-lt_of_le, arith, pow_pos, leb-true, leb-false, le-leb, eq-eqb}
use Rattle.std.proofs.Math.Nat.{div-eq_of_lt}
use Rattle.std.specs.Int.Bits.{bit_or}
use Rattle.std.proofs.lemmas.Nat.{or_lt}
use Rattle.std.proofs.lemmas.Bool.{lt-leb}
use Rattle.recorder.specs.Block.{Block, Sound, HasBit}
use Rattle.recorder.specs.Lasso.{state}
use Rattle.recorder.specs.Flag.{Flag, flag_at}
use Rattle.recorder.specs.Recorder.{none, place, record_at, record_of, step_of, moved, save_of, unsaved}
use Rattle.recorder.proofs.Bits.{has_or}
use Rattle.recorder.proofs.Matching.{Within, state_saved, wish_at, first_record_at, step_record_at}
use Rattle.recorder.specs.declared.Record.{Record}
use Rattle.recorder.specs.Places.{saved_at, bits_at, placed}

-- ---- the wish is on at place l alone
wish_none : (i : ℕ) → wish_at none i ≡ false
wish_none zero = refl
wish_none (suc i) = wish_none i

wish_here : (l : ℕ) → wish_at (place l) l ≡ true
wish_here zero = refl
wish_here (suc l) = wish_here l

wish_other : (l i : ℕ) → (i ≡ l → ⊥) → wish_at (place l) i ≡ false
wish_other zero zero h = absurd (h refl)
wish_other zero (suc i) h = wish_none i
wish_other (suc l) zero h = refl
wish_other (suc l) (suc i) h = wish_other l i (λ e. h (ap suc e))

pub unsaved_n : (B : Block) → unsaved B B.n ≡ true
unsaved_n B = eq-eqb B.n B.n refl

-- with no place nothing is ever saved
pub saved_none : (F : Flag) (B : Block) (ss : List ℕ) (i : ℕ) → i < length ss → (record_of (record_at F B ss none) i).t ≡ B.n
saved_none F B ss zero h = ap (λ (r : Record). r.t) (first_record_at F B ss none h)
saved_none F B ss (suc i) h = ap (λ (r : Record). r.t) (step_record_at F B ss none i h) ∙ rw (wish_none i) (saved_none F B ss i (omega arith))

-- ---- the record at each place
module _ (F : Flag) (B : Block) (ss : List ℕ) (l : ℕ) (in_n : state ss l < B.n) where
  pub saved_before : (i : ℕ) → i ≤ l → saved_at B ss l i ≡ B.n
  saved_before zero h = refl
  saved_before (suc i) h = rw (lt-leb l i h)

  pub saved_after : (i : ℕ) → l < i → saved_at B ss l i ≡ state ss l
  saved_after zero h = absurd (omega arith)
  saved_after (suc i) h = rw (le-leb l i (le_of_suc-le-suc h))

  save_placed : (i : ℕ) → save_of B (placed F B ss l i) (wish_at (place l) i) ≡ saved_at B ss l (suc i)
  save_placed i = go (leb l i) refl
    where
      here : save_of B (placed F B ss l l) (wish_at (place l) l) ≡ saved_at B ss l (suc l)
      here = rw (wish_here l, saved_before l (omega arith), unsaved_n B, le-leb l l (omega arith))

      from : (l ≡ i) ⊎ (l < i) → save_of B (placed F B ss l i) (wish_at (place l) i) ≡ saved_at B ss l (suc i)
      from (inl e) = cc here
      from (inr h) = rw (wish_other l i (λ e. omega arith), le-leb l i (omega arith)) (saved_after i h)

      go : (b : Bool) → leb l i ≡ b → save_of B (placed F B ss l i) (wish_at (place l) i) ≡ saved_at B ss l (suc i)
      go true e = from (eq-or-lt_of_le (leb-true l i e))
      go false e = let h = leb-false l i e in rw (wish_other l i (λ e. omega arith), e) (saved_before i (omega arith))

  next_placed : (i : ℕ) → step_of F B (placed F B ss l i) (state ss (suc i)) (wish_at (place l) i) ≡ placed F B ss l (suc i)
  next_placed i = ap (moved F B (placed F B ss l i) (state ss (suc i))) (save_placed i) ∙ go (leb l i)
    where
      go : (b : Bool) → moved F B (placed F B ss l i) (state ss (suc i)) (cond b (state ss l) B.n) ≡ record {
        s = state ss (suc i);
        t = cond b (state ss l) B.n;
        live = F.next (flag_at F B ss l i) b (B.goal (state ss i));
        v = cond b (bit_or (bits_at B ss l i) (B.fair (state ss i))) (bits_at B ss l i);
      }
      go true = rw (state_saved B (state ss l) in_n)
      go false = rw (unsaved_n B)

  pub record_at_lem : (i : ℕ) → i < length ss → record_of (record_at F B ss (place l)) i ≡ placed F B ss l i
  record_at_lem zero h = first_record_at F B ss (place l) h
  record_at_lem (suc i) h =
      step_record_at F B ss (place l) i h
      ∙ ap (λ (r : Record). step_of F B r (state ss (suc i)) (wish_at (place l) i)) (record_at_lem i (omega arith))
      ∙ next_placed i

-- ---- the bits
module _ (B : Block) (ss : List ℕ) (l : ℕ) where
  -- a set on the loop up to place i
  abbrev pub Met : ℕ → ℕ → Type 0
  Met i b = (j : ℕ) × (l ≤ j) × (j < i) × HasBit (B.fair (state ss j)) b

  pub bits_lt : Sound B → Within B ss → (i : ℕ) → i ≤ length ss → bits_at B ss l i < 2 ^ B.m
  bits_lt ok w zero h = pow_pos B.m
  bits_lt ok w (suc i) h = go (leb l i) (bits_lt ok w i (omega arith))
    where
      go : (b : Bool) → bits_at B ss l i < 2 ^ B.m → cond b (bit_or (bits_at B ss l i) (B.fair (state ss i))) (bits_at B ss l i) < 2 ^ B.m
      go true k = or_lt B.m _ _ k (ok.fair_in _ (w i h))
      go false k = k

  more : (i b : ℕ) → Met i b → Met (suc i) b
  more i b (j, p, q, h) = (j, p, omega arith, h)

  pub bits_met : (i b : ℕ) → HasBit (bits_at B ss l i) b → Met i b
  bits_met zero b h = absurd (omega (arith, div-eq_of_lt (pow_pos b)))
  bits_met (suc i) b h = go (leb l i) refl h (bits_met i b)
    where
      pick : l ≤ i → (HasBit (bits_at B ss l i) b ⊎ HasBit (B.fair (state ss i)) b) → (HasBit (bits_at B ss l i) b → Met i b) → Met (suc i) b
      pick p (inl q) ih = more i b (ih q)
      pick p (inr q) ih = (i, p, omega arith, q)

      go : (t : Bool) → leb l i ≡ t → HasBit (cond t (bit_or (bits_at B ss l i) (B.fair (state ss i))) (bits_at B ss l i)) b
          → (HasBit (bits_at B ss l i) b → Met i b) → Met (suc i) b
      go true e q ih = pick (leb-true l i e) ((has_or _ _ b).0 q) ih
      go false e q ih = more i b (ih q)

  pub met_bits : (i b : ℕ) → Met i b → HasBit (bits_at B ss l i) b
  met_bits zero b m = absurd (omega arith)
  met_bits (suc i) b (j, p, q, h) = last (eq-or-lt_of_le (le_of_suc-le-suc q)) (met_bits i b)
    where
      keep : (t : Bool) → HasBit (bits_at B ss l i) b → HasBit (cond t (bit_or (bits_at B ss l i) (B.fair (state ss i))) (bits_at B ss l i)) b
      keep true k = (has_or _ _ b).1 (inl k)
      keep false k = k

      last : (j ≡ i) ⊎ (j < i) → (Met i b → HasBit (bits_at B ss l i) b) → HasBit (bits_at B ss l (suc i)) b
      last (inl e) ih = rw (le-leb l i (omega arith)) ((has_or (bits_at B ss l i) (B.fair (state ss i)) b).1 (inr (rw e at h)))
      last (inr k) ih = keep (leb l i) (ih (j, p, k, h))
