-- By the flag of docs/RULES.md, "The recorder", the lassos of the flag are the lassos: the flag is 0 at the end exactly where no state has the goal.
-- Assumes nothing.
use Rattle.std.specs.Prelude.{◌≡◌, refl, Bool, true, false, ◌||◌, ◌↔◌, ◌⊎◌, List, ℕ, zero, suc, ◌<◌, length}
use Rattle.std.proofs.Common.{sym, ◌∙◌, true≢false, inl, inr, le_of_suc-le-suc, eq-or-lt_of_le, arith}
use Rattle.recorder.specs.Block.{Block}
use Rattle.recorder.specs.Lasso.{state, Lasso}
use Rattle.recorder.specs.Flag.{live_flag, flag_at, LassoBy}

-- a flag that a hit raises for good is 0 where no place before was hit
module _ (hit flag : ℕ → Bool) (zeroth : flag 0 ≡ false) (step : (i : ℕ) → flag (suc i) ≡ hit i || flag i) where
  or_no : (a b : Bool) → a || b ≡ false → (a ≡ false) × (b ≡ false)
  or_no true b e = absurd (true≢false e)
  or_no false b e = (refl, e)

  no_hit : (i : ℕ) → flag i ≡ false → (j : ℕ) → j < i → hit j ≡ false
  no_hit zero e j h = absurd (omega arith)
  no_hit (suc i) e j h = last (or_no _ _ (sym (step i) ∙ e)) (eq-or-lt_of_le (le_of_suc-le-suc h)) (no_hit i)
    where
      last : (hit i ≡ false) × (flag i ≡ false) → (j ≡ i) ⊎ (j < i) → (flag i ≡ false → (j : ℕ) → j < i → hit j ≡ false) → hit j ≡ false
      last p (inl e) ih = cc
      last p (inr k) ih = ih p.1 j k

  hit_no : (i : ℕ) → ((j : ℕ) → j < i → hit j ≡ false) → flag i ≡ false
  hit_no zero h = zeroth
  hit_no (suc i) h = rw (step i, h i (omega arith)) (hit_no i (λ j k. h j (omega arith)))

pub lasso_live : (B : Block) (ss : List ℕ) (l : ℕ) → LassoBy live_flag B ss l ↔ Lasso B ss l
lasso_live B ss l = (
  λ h. record { loop = h.loop; no_goal = no_hit goal (flag_at live_flag B ss l) refl (λ i. refl) (length ss) h.flag },
  λ h. record { loop = h.loop; flag = hit_no goal (flag_at live_flag B ss l) refl (λ i. refl) (length ss) h.no_goal },
)
  where
    goal : ℕ → Bool
    goal i = B.goal (state ss i)
