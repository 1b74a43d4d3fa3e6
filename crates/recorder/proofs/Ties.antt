-- Laws of the list of numbers by which ties are broken: its length, its number at each place, and that it determines the lasso.
-- Assumes nothing.
use Rattle.std.specs.Prelude.{◌≡◌, refl, Bool, true, false, cond, List, [], ◌∷◌, ℕ, zero, suc, ◌+◌, ◌*◌, ◌≤◌, ◌<◌, leb, length, get_or}
use Rattle.std.proofs.Common.{sym, ap, ◌∙◌, le_of_suc-le-suc, add-zero, zero-add, add-suc, suc-add, arith, length-append, ext_get_or, leb-true, le-leb}
use Rattle.std.proofs.Math.ListN.{get_or-append}
use Rattle.order.specs.Word.{Word}
use Rattle.recorder.specs.Lasso.{state, closed, numbers_from, tie_of}

-- a number has its state, and whether the place is at most l
pub parts : (s s' : ℕ) (b b' : Bool) → 2 * s + cond b 1 0 ≡ 2 * s' + cond b' 1 0 → (s ≡ s') × (b ≡ b')
parts s s' true true e = (omega arith, refl)
parts s s' true false e = absurd (omega arith)
parts s s' false true e = absurd (omega arith)
parts s s' false false e = (omega arith, refl)

length-numbers : (i : ℕ) (ss : List ℕ) (l : ℕ) → length (numbers_from i ss l) ≡ length ss
length-numbers i [] l = refl
length-numbers i (s ∷ ss) l = ap suc (length-numbers (suc i) ss l)

number_from : (i : ℕ) (ss : List ℕ) (l j : ℕ) → j < length ss → get_or (numbers_from i ss l) j 0 ≡ 2 * state ss j + cond (leb (i + j) l) 1 0
number_from i [] l j h = absurd (omega arith)
number_from i (s ∷ ss) l zero h = rw (add-zero i)
number_from i (s ∷ ss) l (suc j) h = number_from (suc i) ss l j (le_of_suc-le-suc h) ∙ rw (suc-add, add-suc)

pub length-closed : (ss : List ℕ) (l : ℕ) → length (closed ss l) ≡ suc (length ss)
length-closed ss l = simp length-append (omega arith)

pub length-tie : (ss : List ℕ) (l : ℕ) → length (tie_of ss l) ≡ suc (length ss)
unfolding tie_of
length-tie ss l = length-numbers 0 (closed ss l) l ∙ length-closed ss l

-- the number at place i is 2·si, plus 1 where i ≤ l
pub tie_at : (ss : List ℕ) (l i : ℕ) → i ≤ length ss → get_or (tie_of ss l) i 0 ≡ 2 * state (closed ss l) i + cond (leb i l) 1 0
unfolding tie_of
tie_at ss l i h = number_from 0 (closed ss l) l i (omega (arith, length-closed ss l)) ∙ rw (zero-add i)

-- the list determines the lasso
pub tie_determines : (ss ss' : List ℕ) (l l' : ℕ) → l < length ss → l' < length ss' → tie_of ss l ≡ tie_of ss' l' → (ss ≡ ss') × (l ≡ l')
tie_determines ss ss' l l' h h' e = (ext_get_or 0 ss ss' same_length (λ i k. same_state i k), omega (arith, low, high))
  where
    same_length : length ss ≡ length ss'
    same_length = omega (arith, length-tie ss l, length-tie ss' l', ap length e)

    same_number : (i : ℕ) → i < length ss → (state (closed ss l) i ≡ state (closed ss' l') i) × (leb i l ≡ leb i l')
    same_number i k = parts _ _ _ _ (sym (tie_at ss l i (omega arith)) ∙ ap (λ (w : Word). get_or w i 0) e ∙ tie_at ss' l' i (omega (arith, same_length)))

    same_state : (i : ℕ) → i < length ss → state ss i ≡ state ss' i
    same_state i k = sym (get_or-append ss _ 0 i k) ∙ (same_number i k).0 ∙ get_or-append ss' _ 0 i (omega (arith, same_length))

    low : l ≤ l'
    low = leb-true l l' (sym (same_number l h).1 ∙ le-leb l l (omega arith))

    high : l' ≤ l
    high = leb-true l' l ((same_number l' (omega (arith, same_length))).1 ∙ le-leb l' l' (omega arith))
