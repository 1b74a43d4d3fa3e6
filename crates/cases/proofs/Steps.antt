-- One step more of the loops over a pattern. Definitions in specs/Patterned.antt.
use Rattle.std.proofs.Common.{◌≡◌, ℕ, zero, suc, ◌+◌, ◌-◌, ◌<◌, ◌≤◌, Bool, true, false, List, ◌∷◌, ◌++◌, length, get_or, set, take, drop, refl, arith, cond, add-one, sub-one, zero-add, inl, inr, ◌⊎◌}
use Rattle.std.proofs.lemmas.List.{take_more_set}
use Rattle.std.proofs.lemmas.List.Sums.{sum_by-cons}
use Rattle.std.specs.List.{zip}
use Rattle.std.proofs.Math.Seq.{drop-cons, drop-nil}
use Rattle.std.proofs.lemmas.Grind.{common_steps}
use Rattle.cases.specs.Patterned.{patterned, kept_from}

-- the words from index i on, by their first
drop_more : {T : Type 0} (words : List T) (i : ℕ) (d : T) → i < length words → drop i words ≡ get_or words i d ∷ drop (i + 1) words
drop_more words i d h = rw add-one (drop-cons words i d h)

module _ {T : Type 0} (plus : T → T → T) (step : T) where
  -- the pattern from x on, by its first word
  patterned_more : (x : T) (n i : ℕ) → i < n → patterned plus x step (n - i) ≡ x ∷ patterned plus (plus x step) step (n - (i + 1))
  unfolding patterned
  patterned_more x n i h = let e : n - i ≡ suc (n - (i + 1)) = omega arith in rw e refl

  -- x is put at index i of n words
  pub words_more : (words whole : List T) (x : T) (n i : ℕ) → length words ≡ n → i < n
      → take i words ++ patterned plus x step (n - i) ≡ whole
      → take (i + 1) (set words i x) ++ patterned plus (plus x step) step (n - (i + 1)) ≡ whole
  words_more words whole x n i e h before = grind (arith, common_steps, patterned_more, take_more_set)

  -- all n words are put
  pub words_end : (words whole : List T) (x : T) (n i : ℕ) → length words ≡ n → n ≤ i
      → take i words ++ patterned plus x step (n - i) ≡ whole → words ≡ whole
  unfolding patterned
  words_end words whole x n i e h before = let none : n - i ≡ 0 = omega arith in grind (arith, common_steps)

  module _ (eq : T → T → Bool) where
    -- whether the first words are counted
    kept_first : (x w : T) (xs ws : List T) → kept_from eq (x ∷ xs) (w ∷ ws) 0 ≡ cond (eq x w) 1 0 + kept_from eq xs ws 0
    unfolding kept_from
    kept_first x w xs ws = sum_by-cons (λ pair. cond (eq pair.0 pair.1) 1 0) (x, w) (zip xs ws)

    -- the first words are passed over, as they are where they differ
    kept_after : (x w : T) (xs ws : List T) (k : ℕ) → (0 < k) ⊎ (eq x w ≡ false) → kept_from eq (x ∷ xs) (w ∷ ws) k ≡ kept_from eq xs ws (k - 1)
    unfolding kept_from
    kept_after x w xs ws zero (inl none) = absurd (omega arith)
    kept_after x w xs ws zero (inr differ) = rw (sum_by-cons (λ pair. cond (eq pair.0 pair.1) 1 0) (x, w) (zip xs ws), differ) (zero-add _)
    kept_after x w xs ws (suc k) _ = rw sub-one refl

    -- how many are counted from word i on, which is w, where w counts
    pub kept_one : (words : List T) (x w : T) (from i : ℕ) → i < length words → w ≡ get_or words i w → from ≤ i → eq x w ≡ true
        → kept_from eq (patterned plus x step (length words - i)) (drop i words) (from - i)
        ≡ 1 + kept_from eq (patterned plus (plus x step) step (length words - (i + 1))) (drop (i + 1) words) (from - (i + 1))
    kept_one words x w from i h read low same =
        let here : from - i ≡ 0 = omega arith in
        let next : from - (i + 1) ≡ 0 = omega arith in
        rw (patterned_more x (length words) i h, drop_more words i w h, ← read, here, next, kept_first, same) refl

    -- the same where w stands before `from`, or is not as the pattern has it
    pub kept_none : (words : List T) (x w : T) (from i : ℕ) → i < length words → w ≡ get_or words i w → (i < from) ⊎ (eq x w ≡ false)
        → kept_from eq (patterned plus x step (length words - i)) (drop i words) (from - i)
        ≡ kept_from eq (patterned plus (plus x step) step (length words - (i + 1))) (drop (i + 1) words) (from - (i + 1))
    kept_none words x w from i h read why =
        let next : from - (i + 1) ≡ from - i - 1 = omega arith in
        let passed : (0 < from - i) ⊎ (eq x w ≡ false) = elim why [ inl before ↦ inl (omega arith) | inr differ ↦ inr differ ] in
        rw (patterned_more x (length words) i h, drop_more words i w h, ← read, next) (kept_after x w _ _ _ passed)

    -- none are counted from the end on
    pub kept_end : (words : List T) (x : T) (k i : ℕ) → length words ≤ i → kept_from eq (patterned plus x step (length words - i)) (drop i words) k ≡ 0
    unfolding kept_from patterned
    kept_end words x k i h = let none : length words - i ≡ 0 = omega arith in rw (none, drop-nil k) refl
