-- Laws of specs/Report.antt. Assumes nothing.
use Rattle.std.specs.Prelude.{◌≡◌, refl, Bool, true, false, cond, List, [], ◌∷◌, ◌++◌, ℕ, suc, ◌+◌, ◌-◌, ◌*◌, ◌/◌, ◌%◌, ◌≤◌, ◌<◌, leb, length}
use Rattle.std.proofs.Common.{sym, ap, ap₂, ◌∙◌, arith, le-leb}
use Rattle.std.proofs.Math.Decide.{dec_lt}
use Rattle.std.proofs.lemmas.Bool.{lt-leb}
use Rattle.order.specs.Word.{Word, ◌▸◌}
use Rattle.order.proofs.Word.{length-▸, ▸_inj}
use Rattle.recorder.specs.Lasso.{state, numbers_from, tie_of}
use Rattle.recorder.proofs.Ties.{length-tie}
use Rattle.search.specs.Report.{halves, odds}

-- w reports the list ss and the place l: the letters of the places 0 to l are odd
pub record Reports (w : Word) (ss : List ℕ) (l : ℕ) : Type 0 where
  pub states : halves w ≡ ss
  pub place : odds w ≡ suc l
  pub size : length w ≡ length ss

-- ---- laws

-- a number has its state, and is odd where 1 was added
pub number_half : (s : ℕ) (b : Bool) → (2 * s + cond b 1 0) / 2 ≡ s
number_half s true = omega arith
number_half s false = omega arith

pub number_odd : (s : ℕ) (b : Bool) → (2 * s + cond b 1 0) % 2 ≡ cond b 1 0
number_odd s true = omega arith
number_odd s false = omega arith

-- the states of numbers are the states
halves_numbers : (i : ℕ) (ss : List ℕ) (l : ℕ) → halves (numbers_from i ss l) ≡ ss
unfolding halves
halves_numbers i [] l = refl
halves_numbers i (s ∷ ss) l = ap₂ (λ (s : ℕ) (ss : List ℕ). s ∷ ss) (number_half s (leb i l)) (halves_numbers (suc i) ss l)

-- of the places from i on, which go past l, those up to l are odd
odds_numbers : (i : ℕ) (ss : List ℕ) (l : ℕ) → suc l ≤ i + length ss → odds (numbers_from i ss l) ≡ suc l - i
unfolding odds
odds_numbers i [] l h = omega arith
odds_numbers i (s ∷ ss) l h = go (dec_lt l i) (odds_numbers (suc i) ss l (omega arith))
  where
    go : Dec (l < i) → odds (numbers_from (suc i) ss l) ≡ suc l - suc i → odds (numbers_from i (s ∷ ss) l) ≡ suc l - i
    go (yes p) ih = rw (lt-leb i l p) (omega (arith, ih))
    go (no p) ih = rw (le-leb i l (omega arith)) (omega (arith, ih))

-- the numbers of one more place
numbers_snoc : (i : ℕ) (ss : List ℕ) (x l : ℕ) → (a : ℕ) × (numbers_from i (ss ++ (x ∷ [])) l ≡ numbers_from i ss l ▸ a)
unfolding ◌▸◌
numbers_snoc i [] x l = (_, refl)
numbers_snoc i (s ∷ ss) x l = let (a, e) = numbers_snoc (suc i) ss x l in (a, ap (λ (w : Word). (2 * s + cond (leb i l) 1 0) ∷ w) e)

-- the numbers of a lasso, but for the last, report the lasso
pub lasso_reported : (ss : List ℕ) (l : ℕ) (w : Word) (a : ℕ) → l < length ss → tie_of ss l ≡ w ▸ a → Reports w ss l
unfolding tie_of
lasso_reported ss l w a h e =
    let (b, d) = numbers_snoc 0 ss (state ss l) l in
    let is : w ≡ numbers_from 0 ss l = (▸_inj w (numbers_from 0 ss l) a b (sym e ∙ d)).0 in
    record {
      states = ap halves is ∙ halves_numbers 0 ss l;
      place = ap odds is ∙ odds_numbers 0 ss l (omega arith) ∙ omega arith;
      size = omega (arith, length-tie ss l, length-▸ w a, ap length e);
    }
