-- Laws of specs/Cleared.antt. Assumes nothing.
use Rattle.std.specs.Prelude.{◌≡◌, List, ◌++◌, ℕ, ◌+◌, ◌-◌, ◌≤◌, ◌<◌, length, get_or, drop, replicate, set, [], ◌∷◌, zero, suc, refl}
use Rattle.std.proofs.Common.{sym, ap, ◌∙◌, arith, length-append, length-drop, drop_at, drop-drop, add-one}
use Rattle.std.proofs.lemmas.List.{length-replicate, get_or-replicate}
use Rattle.std.proofs.Math.ListN.{get_or-append}
use Rattle.writing.specs.Cleared.{cleared}

-- the length stays
pub length-cleared : (k : ℕ) (w : List ℕ) → k ≤ length w → length (cleared k w) ≡ length w
length-cleared k w h = simp (length-append, length-replicate, length-drop) (omega arith)

-- the first k words are 0
pub cleared_at : (k : ℕ) (w : List ℕ) (i : ℕ) → i < k → get_or (cleared k w) i 0 ≡ 0
cleared_at k w i h = get_or-append (replicate k 0) (drop k w) 0 i (simp length-replicate h) ∙ get_or-replicate k i 0 0 h

-- one more word is set to 0
pub cleared_next : (k : ℕ) (w : List ℕ) → k < length w → set (cleared k w) k 0 ≡ cleared (k + 1) w
cleared_next k w h = go k w h ∙ ap (λ (j : ℕ). cleared j w) (sym (add-one k))
  where
    go : (k : ℕ) (w : List ℕ) → k < length w → set (cleared k w) k 0 ≡ cleared (suc k) w
    go k [] h = absurd (omega arith)
    go zero (x ∷ w) h = refl
    go (suc k) (x ∷ w) h = ap (λ (l : List ℕ). 0 ∷ l) (go k w (omega arith))

-- the rest is unchanged
pub cleared_rest : (k : ℕ) (w : List ℕ) → drop k (cleared k w) ≡ drop k w
cleared_rest k w = drop_at (replicate k 0) (drop k w) k (length-replicate k 0)

-- and so is what lies further on
pub cleared_past : (k j : ℕ) (w : List ℕ) → k ≤ j → drop j (cleared k w) ≡ drop j w
cleared_past k j w h =
    let e : k + (j - k) ≡ j = omega arith in
    rw (← e) (sym (drop-drop (j - k) k (cleared k w)) ∙ ap (drop (j - k)) (cleared_rest k w) ∙ drop-drop (j - k) k w)

-- what was written into the first k words leaves no trace
pub cleared_again : (k : ℕ) (w w' : List ℕ) → drop k w' ≡ drop k w → cleared k w' ≡ cleared k w
cleared_again k w w' e = ap (λ (rest : List ℕ). replicate k 0 ++ rest) e
