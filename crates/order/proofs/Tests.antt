-- Tests that compute, on lists and below a number, and what each tells where it is true.
-- Assumes nothing.
use Rattle.std.specs.Prelude.{◌≡◌, Bool, cond, ◌&&◌, ◌||◌, ◌↔◌, ◌⊎◌, eqb}
use Rattle.std.proofs.Math.Path.{refl}
use Rattle.std.proofs.Common.{ap, ◌∙◌, inl, inr, eqb-true, eq-eqb}
use Rattle.std.proofs.Math.Bool.{true, false, and-eq-true_iff, or-true}
use Rattle.std.proofs.lemmas.Bool.{false≢true}
use mathlib.Core.List.Memᴰ
use mathlib.Core.List.{List, [], ◌∷◌, ◌++◌, Memᴰ}
use Prim.Native.Nat.{ℕ, zero, suc, ◌<◌}
use Rattle.std.proofs.Math.Decide.{dec_lt}
use native.Mathlib.Omega.{arith}

-- x stands in the list
abbrev pub Listed : ℕ → List ℕ → Type 0
Listed x xs = Memᴰ x xs

unfoldable pub is_in : ℕ → List ℕ → Bool
is_in x [] = false
is_in x (y ∷ ys) = eqb x y || is_in x ys

-- each number of the list passes
unfoldable pub every : (ℕ → Bool) → List ℕ → Bool
every p [] = true
every p (x ∷ xs) = p x && every p xs

-- each number below n passes
unfoldable pub below : (ℕ → Bool) → ℕ → Bool
below p zero = true
below p (suc n) = p n && below p n

-- two lists are the same
unfoldable pub same : List ℕ → List ℕ → Bool
same [] [] = true
same [] (y ∷ ys) = false
same (x ∷ xs) [] = false
same (x ∷ xs) (y ∷ ys) = eqb x y && same xs ys

-- the items of each number below n that passes
unfoldable pub picked : (ℕ → Bool) → (ℕ → List ℕ) → ℕ → List ℕ
picked p items zero = []
picked p items (suc n) = cond (p n) (items n ++ picked p items n) (picked p items n)

-- What they tell

pub both : (a b : Bool) → (a && b) ≡ true → (a ≡ true) × (b ≡ true)
both a b = (and-eq-true_iff a b).0

pub is_in_listed : (x : ℕ) (xs : List ℕ) → is_in x xs ≡ true → Listed x xs
unfolding is_in
is_in_listed x [] e = absurd (false≢true e)
is_in_listed x (y ∷ ys) e = go (eqb x y) refl e (is_in_listed x ys)
  where
    go : (t : Bool) → eqb x y ≡ t → (t || is_in x ys) ≡ true → (is_in x ys ≡ true → Listed x ys) → Listed x (y ∷ ys)
    go true d e ih = Memᴰ.head (eqb-true x y d)
    go false d e ih = Memᴰ.tail (ih e)

pub listed_is_in : (x : ℕ) (xs : List ℕ) → Listed x xs → is_in x xs ≡ true
unfolding is_in
listed_is_in x [] m = elim m [ ]
listed_is_in x (y ∷ ys) (Memᴰ.head d) = rw (eq-eqb x y d)
listed_is_in x (y ∷ ys) (Memᴰ.tail m) = rw (listed_is_in x ys m, or-true)

pub every_listed : (p : ℕ → Bool) (xs : List ℕ) → every p xs ≡ true → (x : ℕ) → Listed x xs → p x ≡ true
unfolding every
every_listed p [] e x m = elim m [ ]
every_listed p (y ∷ ys) e x (Memᴰ.head d) = rw d (both (p y) _ e).0
every_listed p (y ∷ ys) e x (Memᴰ.tail m) = every_listed p ys (both (p y) _ e).1 x m

pub below_true : (p : ℕ → Bool) (n : ℕ) → below p n ≡ true → (i : ℕ) → i < n → p i ≡ true
unfolding below
below_true p zero e i l = absurd (omega arith)
below_true p (suc n) e i l = go (dec_lt i n) (below_true p n (both (p n) _ e).1 i)
  where
    go : Dec (i < n) → (i < n → p i ≡ true) → p i ≡ true
    go (yes k) ih = ih k
    go (no k) ih = let d : i ≡ n = omega arith in rw d (both (p n) _ e).0

pub same_equal : (xs ys : List ℕ) → same xs ys ≡ true → xs ≡ ys
unfolding same
same_equal [] [] e = refl
same_equal [] (y ∷ ys) e = absurd (false≢true e)
same_equal (x ∷ xs) [] e = absurd (false≢true e)
same_equal (x ∷ xs) (y ∷ ys) e =
    let s = both _ _ e in
    let h : x ≡ y = eqb-true x y s.0 in
    let t : xs ≡ ys = same_equal xs ys s.1 in
    cc

module _ (p : ℕ → Bool) (items : ℕ → List ℕ) (x : ℕ) where
  listed_to : (n : ℕ) → Listed x (picked p items n) → (i : ℕ) × (i < n) × (p i ≡ true) × Listed x (items i)
  unfolding picked
  listed_to zero m = absurd (Memᴰ.not-nil m)
  listed_to (suc n) m = go (p n) refl m (listed_to n)
    where
      more : ((i : ℕ) × (i < n) × (p i ≡ true) × Listed x (items i)) → (i : ℕ) × (i < suc n) × (p i ≡ true) × Listed x (items i)
      more (i, l, h, m) = (i, omega arith, h, m)

      either : p n ≡ true → Listed x (items n) ⊎ Listed x (picked p items n)
          → (Listed x (picked p items n) → (i : ℕ) × (i < n) × (p i ≡ true) × Listed x (items i))
          → (i : ℕ) × (i < suc n) × (p i ≡ true) × Listed x (items i)
      either e (inl m) ih = (n, omega arith, e, m)
      either e (inr m) ih = more (ih m)

      go : (t : Bool) → p n ≡ t → Listed x (cond t (items n ++ picked p items n) (picked p items n))
          → (Listed x (picked p items n) → (i : ℕ) × (i < n) × (p i ≡ true) × Listed x (items i))
          → (i : ℕ) × (i < suc n) × (p i ≡ true) × Listed x (items i)
      go true e m ih = either e (Memᴰ.append_cases (items n) m) ih
      go false e m ih = more (ih m)

  listed_from : (n i : ℕ) → i < n → p i ≡ true → Listed x (items i) → Listed x (picked p items n)
  unfolding picked
  listed_from zero i l h m = absurd (omega arith)
  listed_from (suc n) i l h m = go (dec_lt i n) (λ k. listed_from n i k h m)
    where
      later : (t : Bool) → Listed x (picked p items n) → Listed x (cond t (items n ++ picked p items n) (picked p items n))
      later true r = Memᴰ.append_right (items n) r
      later false r = r

      go : Dec (i < n) → (i < n → Listed x (picked p items n)) → Listed x (cond (p n) (items n ++ picked p items n) (picked p items n))
      go (yes k) ih = later (p n) (ih k)
      go (no k) ih =
          let e : n ≡ i = omega arith in
          let t : p n ≡ true = ap p e ∙ h in
          let m' : Listed x (items n) = rw e m in
          rw t (Memᴰ.append_left (picked p items n) m')

  pub picked_listed : (n : ℕ) → Listed x (picked p items n) ↔ ((i : ℕ) × (i < n) × (p i ≡ true) × Listed x (items i))
  picked_listed n = (listed_to n, λ (i, l, h, m). listed_from n i l h m)
