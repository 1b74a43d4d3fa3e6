-- The list of k numbers that a function gives: its length, its numbers, and one more. Assumes nothing.
use Rattle.std.specs.Prelude.{◌≡◌, refl, ◌⊎◌, [], ◌∷◌, ◌++◌, ℕ, zero, suc, ◌+◌, ◌<◌, length, get_or}
use Rattle.std.proofs.Common.{sym, ap, ◌∙◌, inl, inr, eq-or-lt_of_le, add-one, arith, length-append}
use Rattle.std.proofs.Math.ListN.{get_or-append}
use Rattle.std.proofs.lemmas.List.{get_or_at}
use Rattle.writing.specs.File.{listed}

-- a list of k numbers has k
pub length-listed : (f : ℕ → ℕ) (k : ℕ) → length (listed f k) ≡ k
unfolding listed
length-listed f zero = refl
length-listed f (suc k) = rw (length-append, length-listed f k) (omega arith)

-- and f i at place i
pub get_d_listed : (f : ℕ → ℕ) (k i : ℕ) → i < k → get_or (listed f k) i 0 ≡ f i
unfolding listed
get_d_listed f zero i h = absurd (omega arith)
get_d_listed f (suc k) i h = go (eq-or-lt_of_le h) (get_d_listed f k i)
  where
    go : (suc i ≡ suc k) ⊎ (suc i < suc k) → (i < k → get_or (listed f k) i 0 ≡ f i) → get_or (listed f k ++ (f k ∷ [])) i 0 ≡ f i
    go (inl e) ih = let d : i ≡ k = omega arith in rw d (get_or_at (listed f k) (f k) [] 0 k (length-listed f k))
    go (inr l) ih = get_or-append (listed f k) (f k ∷ []) 0 i (omega (arith, length-listed f k)) ∙ ih (omega arith)

-- one more number
pub listed_next : (f : ℕ → ℕ) (p x : ℕ) → x ≡ f p → listed f p ++ (x ∷ []) ≡ listed f (p + 1)
unfolding listed
listed_next f p x e = ap (λ (x : ℕ). listed f p ++ (x ∷ [])) e ∙ sym (ap (listed f) (add-one p))
