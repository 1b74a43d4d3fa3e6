-- Laws of specs/Graph.antt. Assumes nothing.
use Rattle.std.specs.Prelude.{◌≡◌, [], ◌∷◌, ℕ, suc, ◌<◌, length}
use Rattle.std.proofs.Common.{sym, ap, arith}
use Rattle.order.specs.Word.{Word, ◌▸◌, ◌⊑◌}
use Rattle.order.proofs.Word.{⊑_antisym, length-▸, ▸_inj}
use Rattle.order.specs.Graph.{Graph, Run, word, LeastBad, begin, step}

-- the word of a run says where the run ends
unfoldable pub Determined : Graph → Type 0
Determined G = (x y : ℕ) (r : Run G x) (t : Run G y) → word r ≡ word t → x ≡ y

-- there is at most one such word
pub least_unique : {G : Graph} {w v : Word} → LeastBad G w → LeastBad G v → w ≡ v
least_unique p q = ⊑_antisym (below p q) (below q p)
  where
    below : {G : Graph} {w v : Word} → LeastBad G w → LeastBad G v → w ⊑ v
    below p q = rw q.spells.spelled at (p.least q.last q.spells.run q.bad)

-- Where labels tell starts apart, and tell apart what one node's edges lead to, a run's word says where it ends.

word_pos : {G : Graph} {x : ℕ} (r : Run G x) → 0 < length (word r)
unfolding word
word_pos (begin h) = omega arith
word_pos (step r e) = simp length-▸ (omega arith)

module _ (G : Graph) (starts : (s t : ℕ) → G.Start s → G.Start t → G.label s ≡ G.label t → s ≡ t)
    (edges : (x y z : ℕ) → G.Edge x y → G.Edge x z → G.label y ≡ G.label z → y ≡ z) where
  -- a word of one letter is not a longer one
  apart : {x : ℕ} (a b : ℕ) (r : Run G x) → ¬ (a ∷ [] ≡ word r ▸ b)
  apart a b r e = let l : 1 ≡ suc (length (word r)) = rw length-▸ at (ap length e) in omega (arith, word_pos r)

  pub determined : Determined G
  unfolding Determined word
  determined x y (begin h) (begin k) e = starts x y h k (cc)
  determined x y (begin h) (step t k) e = absurd (apart _ _ t e)
  determined x y (step r h) (begin k) e = absurd (apart _ _ r (sym e))
  determined x y (step {x = u} r h) (step {x = v} t k) e =
      let i = ▸_inj (word r) (word t) (G.label x) (G.label y) e in
      let d : u ≡ v = determined u v r t i.0 in
      edges v x y (rw d at h) k i.1
