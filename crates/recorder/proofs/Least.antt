-- Laws of specs/Least.antt. Assumes nothing.
use Rattle.std.specs.Prelude.{◌≡◌, ◌↔◌, ◌⊎◌, List, ℕ, ◌<◌, length}
use Rattle.std.proofs.Common.{sym, ◌∙◌, inl, inr, arith}
use Rattle.std.proofs.Math.Decide.{dec_lt}
use Rattle.order.specs.Word.{Word, ◌≺◌, shorter, sooner, ◌⊑◌, less, same}
use Rattle.order.proofs.Word.{⊏_irrefl, ⊏-⊑_trans, ≺_compare, ⊑_antisym, ⊑_length}
use Rattle.order.specs.Graph.{Safe, LeastBad}
use Rattle.recorder.specs.Block.{Block, Sound}
use Rattle.recorder.specs.Lasso.{Lasso, tie_of, Least, None, LeastLasso}
use Rattle.recorder.specs.Flag.{Flag, live_flag, LassoBy}
use Rattle.recorder.proofs.Live.{lasso_live}
use Rattle.recorder.proofs.Ties.{length-tie, tie_determines}
use Rattle.recorder.specs.SlotGraph.{slot_graph}
use Rattle.recorder.proofs.LassoWords.{bad_of_lasso, lasso_of_bad}
use Rattle.recorder.specs.Least.{LeastBy, LeastOfBlock}

-- ---- shortest, then first in the dictionary: that is first in shortlex
module _ (L : List ℕ → ℕ → Type 0) where
  before_all : (ss ss' : List ℕ) (l l' : ℕ) → Least L ss l → L ss' l' → tie_of ss l ⊑ tie_of ss' l'
  before_all ss ss' l l' m h = go (dec_lt (length ss) (length ss'))
    where
      letters : length ss ≡ length ss' → length (tie_of ss l) ≡ length (tie_of ss' l')
          → (tie_of ss l ≺ tie_of ss' l') ⊎ (tie_of ss l ≡ tie_of ss' l') ⊎ (tie_of ss' l' ≺ tie_of ss l) → tie_of ss l ⊑ tie_of ss' l'
      letters e k (inl s) = less (sooner k s)
      letters e k (inr (inl q)) = same q
      letters e k (inr (inr s)) = absurd (m.first ss' l' h (sym e) s)

      go : Dec (length ss < length ss') → tie_of ss l ⊑ tie_of ss' l'
      go (yes k) = less (shorter (omega (arith, length-tie ss l, length-tie ss' l')))
      go (no k) =
          let e : length ss ≡ length ss' = omega (arith, m.shortest ss' l' h) in
          let d : length (tie_of ss l) ≡ length (tie_of ss' l') = omega (arith, length-tie ss l, length-tie ss' l') in
          letters e d (≺_compare _ _ d)

  least_of_before : (ss : List ℕ) (l : ℕ) → L ss l → ((ss' : List ℕ) (l' : ℕ) → L ss' l' → tie_of ss l ⊑ tie_of ss' l') → Least L ss l
  least_of_before ss l h b = record {
    is = h;
    shortest = λ ss' l' k. omega (arith, ⊑_length (b ss' l' k), length-tie ss l, length-tie ss' l');
    first = λ ss' l' k e s. ⊏_irrefl (⊏-⊑_trans (sooner (omega (arith, length-tie ss l, length-tie ss' l')) s) (b ss' l' k));
  }

  -- at most one is least, where each has its loop place in the list
  least_unique : ((ss : List ℕ) (l : ℕ) → L ss l → l < length ss) → (ss ss' : List ℕ) (l l' : ℕ) → Least L ss l → Least L ss' l' → (ss ≡ ss') × (l ≡ l')
  least_unique here ss ss' l l' m m' =
      tie_determines ss ss' l l' (here ss l m.is) (here ss' l' m'.is)
      (⊑_antisym (before_all ss ss' l l' m m'.is) (before_all ss' ss l' l m' m.is))

-- what is least depends only on which lassos there are
least_same : (L M : List ℕ → ℕ → Type 0) → ((ss : List ℕ) (l : ℕ) → L ss l ↔ M ss l) → (ss : List ℕ) (l : ℕ) → Least L ss l → Least M ss l
least_same L M e ss l m = record {
  is = (e ss l).0 m.is;
  shortest = λ ss' l' h. m.shortest ss' l' ((e ss' l').1 h);
  first = λ ss' l' h. m.first ss' l' ((e ss' l').1 h);
}

-- ---- over any flag
module _ (F : Flag) (B : Block) (ok : Sound B) where
  pub least_word : (w : Word) → LeastBad (slot_graph F B) w ↔ ((ss : List ℕ) × (l : ℕ) × Least (LassoBy F B) ss l × (tie_of ss l ≡ w))
  least_word w = (to, from)
    where
      to : LeastBad (slot_graph F B) w → (ss : List ℕ) × (l : ℕ) × Least (LassoBy F B) ss l × (tie_of ss l ≡ w)
      to m =
          let h = lasso_of_bad F B ok m.spells.run m.bad in
          let e : tie_of h.ss h.l ≡ w = h.tie ∙ m.spells.spelled in (
            h.ss,
            h.l,
            least_of_before (LassoBy F B) h.ss h.l h.lasso (λ ss' l' k.
                let b = bad_of_lasso F B ok ss' l' k in
                rw (e, ← b.spells.spelled) (m.least b.last b.spells.run b.bad)),
            e,
          )

      from : ((ss : List ℕ) × (l : ℕ) × Least (LassoBy F B) ss l × (tie_of ss l ≡ w)) → LeastBad (slot_graph F B) w
      from (ss, l, m, e) =
          let b = bad_of_lasso F B ok ss l m.is in
          record {
            last = b.last;
            bad = b.bad;
            spells = record { run = b.spells.run; spelled = b.spells.spelled ∙ e };
            least = λ x r c.
                let h = lasso_of_bad F B ok r c in
                rw (← e, ← h.tie) (before_all (LassoBy F B) ss h.ss l h.l m h.lasso);
          }

  pub safe_none : Safe (slot_graph F B) ↔ None (LassoBy F B)
  unfolding Safe
  safe_none = (
    λ safe ss l h. let b = bad_of_lasso F B ok ss l h in safe b.last b.spells.run b.bad,
    λ none x r b. let h = lasso_of_bad F B ok r b in none h.ss h.l h.lasso,
  )

-- it holds of every flag and its lassos
pub least_by : (F : Flag) (B : Block) → Sound B → LeastBy F B (LassoBy F B)
least_by F B ok = record {
  spelled = least_word F B ok;
  unique = least_unique (LassoBy F B) (λ ss l h. h.loop.here);
  none = safe_none F B ok;
}

-- and depends only on which lassos there are
least_by_same : (F : Flag) (B : Block) (L M : List ℕ → ℕ → Type 0) → ((ss : List ℕ) (l : ℕ) → L ss l ↔ M ss l) → LeastBy F B L → LeastBy F B M
least_by_same F B L M e b = record {
  spelled = λ w. (
    λ m. let (ss, l, h, d) = (b.spelled w).0 m in (ss, l, least_same L M e ss l h, d),
    λ (ss, l, h, d). (b.spelled w).1 (ss, l, least_same M L back ss l h, d),
  );
  unique = λ ss ss' l l' h h'. b.unique ss ss' l l' (least_same M L back ss l h) (least_same M L back ss' l' h');
  none = (λ s ss l h. b.none.0 s ss l ((e ss l).1 h), λ n. b.none.1 (λ ss l h. n ss l ((e ss l).0 h)));
}
  where
    back : (ss : List ℕ) (l : ℕ) → M ss l ↔ L ss l
    back ss l = ((e ss l).1, (e ss l).0)

-- the least lasso by the flag is the least lasso
pub least_live : (B : Block) (ss : List ℕ) (l : ℕ) → Least (LassoBy live_flag B) ss l → LeastLasso B ss l
least_live B = least_same (LassoBy live_flag B) (Lasso B) (lasso_live B)

-- it holds of every sound block
pub least_of_block : (B : Block) → Sound B → LeastOfBlock B
least_of_block B ok = least_by_same live_flag B (LassoBy live_flag B) (Lasso B) (lasso_live B) (least_by live_flag B ok)
