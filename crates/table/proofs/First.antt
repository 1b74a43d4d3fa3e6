-- Laws of specs/First.antt. Assumes nothing.
use Rattle.std.specs.Prelude.{is_some, MatchOption, ◌≡◌, refl, Bool, true, false, ◌↔◌, ◌⊎◌, ℕ, zero, suc, ◌+◌, ◌-◌, ◌≤◌, ◌<◌, Option, None, Some}
use Rattle.std.proofs.Common.{sym, ap, ◌∙◌, true≢false, inl, inr, eq-or-lt_of_le, arith}
use Rattle.std.proofs.lemmas.Bool.{false≢true}
use mathlib.Core.Logic.Iff
use Rattle.std.proofs.Math.Decide.{dec_lt}
use Rattle.std.proofs.lemmas.Option.{none-some}
use Rattle.table.specs.First.{first_from, first_in}

-- i is the first index from lo up to, not including, hi at which P passes
pub record FirstAt (lo hi : ℕ) (P : ℕ → Bool) (i : ℕ) : Type 0 where
  pub from : lo ≤ i
  pub below : i < hi
  pub passes : P i ≡ true
  pub before : (j : ℕ) → lo ≤ j → j < i → P j ≡ false

-- ---- the laws

-- P passes nowhere from lo up to, not including, hi
abbrev pub NoneIn : ℕ → ℕ → (ℕ → Bool) → Type 0
NoneIn lo hi P = (j : ℕ) → lo ≤ j → j < hi → P j ≡ false

-- what an answer says
abbrev Says : ℕ → ℕ → (ℕ → Bool) → Option ℕ → Type 0
Says lo hi P None = NoneIn lo hi P
Says lo hi P (Some i) = FirstAt lo hi P i

-- an index that fails, before the others
none_past : (lo hi : ℕ) (P : ℕ → Bool) → P lo ≡ false → NoneIn (suc lo) hi P → NoneIn lo hi P
none_past lo hi P e h j l k = go (eq-or-lt_of_le l)
  where
    go : (lo ≡ j) ⊎ (lo < j) → P j ≡ false
    go (inl q) = rw (← q) e
    go (inr q) = h j q k

past : (lo hi : ℕ) (P : ℕ → Bool) (o : Option ℕ) → P lo ≡ false → Says (suc lo) hi P o → Says lo hi P o
past lo hi P None e h = none_past lo hi P e h
past lo hi P (Some i) e h = record { from = omega arith; below = h.below; passes = h.passes; before = none_past lo i P e h.before }

says_from : (k : ℕ) (P : ℕ → Bool) (i : ℕ) → Says i (i + k) P (first_from k P i)
unfolding first_from
says_from zero P i = λ j l k. absurd (omega arith)
says_from (suc k) P i = go (P i) refl (says_from k P (suc i))
  where
    go : (t : Bool) → P i ≡ t → Says (suc i) (suc i + k) P (first_from k P (suc i)) → Says i (i + suc k) P (first_from (suc k) P i)
    go true e h = rw (e, first_from) (record { from = omega arith; below = omega arith; passes = e; before = λ j l k. absurd (omega arith) })
    go false e h = let p : suc i + k ≡ i + suc k = omega arith in rw (e, first_from) (past i (i + suc k) P (first_from k P (suc i)) e (rw p at h))

-- the answer holds
says : (lo hi : ℕ) (P : ℕ → Bool) → Says lo hi P (first_in lo hi P)
unfolding first_in
says lo hi P = go (first_from (hi - lo) P lo) (says_from (hi - lo) P lo)
  where
    go : (o : Option ℕ) → Says lo (lo + (hi - lo)) P o → Says lo hi P o
    go None h = λ j l k. h j l (omega arith)
    go (Some i) h = record { from = h.from; below = omega arith; passes = h.passes; before = h.before }

-- there is one first
same_first : (lo hi : ℕ) (P : ℕ → Bool) (i j : ℕ) → FirstAt lo hi P i → FirstAt lo hi P j → i ≡ j
same_first lo hi P i j f g = go (dec_lt i j) (dec_lt j i)
  where
    go : Dec (i < j) → Dec (j < i) → i ≡ j
    go (yes h) d = absurd (true≢false (sym f.passes ∙ g.before i f.from h))
    go (no h) (yes k) = absurd (true≢false (sym g.passes ∙ f.before j g.from k))
    go (no h) (no k) = omega arith

pub first_some : (lo hi : ℕ) (P : ℕ → Bool) (i : ℕ) → (first_in lo hi P ≡ Some i) ↔ FirstAt lo hi P i
first_some lo hi P i = (λ e. rw e at (says lo hi P), go (first_in lo hi P) (says lo hi P))
  where
    go : (o : Option ℕ) → Says lo hi P o → FirstAt lo hi P i → o ≡ Some i
    go None h f = absurd (true≢false (sym f.passes ∙ h i f.from f.below))
    go (Some j) h f = ap {B = Option ℕ} Some (same_first lo hi P j i h f)

pub first_none : (lo hi : ℕ) (P : ℕ → Bool) → (first_in lo hi P ≡ None) ↔ ((j : ℕ) → lo ≤ j → j < hi → P j ≡ false)
first_none lo hi P = (λ e. rw e at (says lo hi P), go (first_in lo hi P) (says lo hi P))
  where
    go : (o : Option ℕ) → Says lo hi P o → NoneIn lo hi P → ◌≡◌ {A = Option ℕ} o None
    go None h f = refl
    go (Some i) h f = absurd (true≢false (sym h.passes ∙ f i h.from h.below))

-- what `find` over the indices answers, said of each index, is the first
pub first_found : (lo hi : ℕ) (P : ℕ → Bool) (r : Option ℕ)
    → MatchOption r (NoneIn lo hi P) (λ i. (lo ≤ i) × (i < hi) × (P i ≡ true) × ((j : ℕ) → lo ≤ j → j < i → P j ≡ false)) → r ≡ first_in lo hi P
first_found lo hi P None h = sym ((first_none lo hi P).1 h)
first_found lo hi P (Some i) (f, l, p, n) = sym ((first_some lo hi P i).1 (record { from = f; below = l; passes = p; before = n }))

-- there is one exactly where some index passes
pub some_in : (lo hi : ℕ) (P : ℕ → Bool) → (is_some (first_in lo hi P) ≡ true) ↔ ((i : ℕ) × (lo ≤ i) × (i < hi) × (P i ≡ true))
some_in lo hi P = (to (first_in lo hi P) (says lo hi P), from (first_in lo hi P) (says lo hi P))
  where
    to : (o : Option ℕ) → Says lo hi P o → is_some o ≡ true → (i : ℕ) × (lo ≤ i) × (i < hi) × (P i ≡ true)
    to None h e = absurd (false≢true e)
    to (Some i) h e = (i, h.from, h.below, h.passes)

    from : (o : Option ℕ) → Says lo hi P o → (i : ℕ) × (lo ≤ i) × (i < hi) × (P i ≡ true) → is_some o ≡ true
    from None h (i, l, k, e) = absurd (true≢false (sym e ∙ h i l k))
    from (Some i) h p = refl

-- and there is none where every index fails
pub none_in : (lo hi : ℕ) (P : ℕ → Bool) → (is_some (first_in lo hi P) ≡ false) ↔ ((j : ℕ) → lo ≤ j → j < hi → P j ≡ false)
none_in lo hi P = Iff.trans (is_none (first_in lo hi P)) (first_none lo hi P)
  where
    is_none : (o : Option ℕ) → (is_some o ≡ false) ↔ (o ≡ None)
    is_none None = (λ e. refl, λ e. refl)
    is_none (Some i) = (λ e. absurd (true≢false e), λ e. absurd (none-some i (sym e)))
