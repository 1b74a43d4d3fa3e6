-- The row of a slot holds exactly what the slot leads to, rising strictly. docs/RULES.md, "Translated table" and "The table file". By any
-- flag R. Assumes nothing.
use Rattle.std.specs.Prelude.{◌≡◌, Bool, cond, List, [], ◌∷◌, ◌++◌}
use Rattle.std.proofs.Math.Path.{refl}
use Rattle.std.proofs.Common.{ap, ◌∙◌, true≢false, eqb-true}
use Rattle.std.proofs.Math.Bool.{true, false}
use Prim.Native.Nat.{ℕ, zero, suc, ◌+◌, ◌-◌, ◌*◌, ◌≤◌, ◌<◌}
use Rattle.std.proofs.Math.Decide.{dec_lt}
use native.Mathlib.Omega.{arith}
use Rattle.std.proofs.Math.ListN.{length, get_or}
use Rattle.std.proofs.lemmas.Bool.{eqb-false}
use Rattle.recorder.specs.Flag.{Flag}
use Rattle.recorder.specs.Recorder.{unsaved, number}
use Rattle.recorder.proofs.Slots.{saved_in, bits_in}
use Rattle.recorder.specs.SlotGraph.{at, slot}
use Rattle.recorder.proofs.SlotGraph.{at_next}
use Rattle.recorder.proofs.Successors.{saved_forgets_wish, numbers_order}
use Rattle.table.specs.Layout.{target}
use Rattle.table.specs.BlockOf.{block_of}
use Rattle.table.specs.WellFormed.{WellFormed}
use Rattle.table.proofs.Sound.{sound, edge_is}
use Rattle.table.proofs.Row.{row_some, row_edge, row_rises_strictly}
use Rattle.table.specs.Recording.{slots_of, graph_of, next_of, state_of, from_of, to_of}
use Rattle.table.proofs.Recording.{block_states, state_in, next_in}
use Rattle.table.proofs.Labels.{label_saving, label_plain}
use Rattle.writing.specs.FileRead.{Stands}
use Rattle.translation.specs.File.{along_from, row_of}

module _ (R : Flag) (b : List ℕ) (f : WellFormed b) (p : ℕ) (p_in : p < slots_of b) where
  abbrev u : Bool
  u = unsaved (block_of b) (at (block_of b) p).t

  there : (i : ℕ) → from_of b p ≤ i → i < to_of b p → (block_of b).edge (state_of b p) (target b i) ≡ true
  there i l h = row_edge b f (state_of b p) (state_in b p p_in) i l h

  -- ---- what stands in a row is led to
  along_leads : (k i j : ℕ) → from_of b p ≤ i → i + k ≤ to_of b p → j < length (along_from R b p i k)
      → (graph_of R b).Edge p (get_or (along_from R b p i k) j 0)
  unfolding along_from
  along_leads zero i j l h g = absurd (omega arith)
  along_leads (suc k) i j l h g = go u j (λ j. along_leads k (suc i) j (omega arith) (omega arith)) g
    where
      e : (block_of b).edge (state_of b p) (target b i) ≡ true
      e = there i l (omega arith)

      go : (v : Bool) (j : ℕ) → ((j : ℕ) → j < length (along_from R b p (suc i) k) → (graph_of R b).Edge p (get_or (along_from R b p (suc i) k) j 0))
          → j < length ((next_of R b p (target b i) true ∷ cond v (next_of R b p (target b i) false ∷ []) []) ++ along_from R b p (suc i) k)
          → (graph_of R b).Edge p (get_or ((next_of R b p (target b i) true ∷ cond v (next_of R b p (target b i) false ∷ []) []) ++ along_from R b p (suc i) k) j 0)
      go v zero ih g = (target b i, true, e, refl)
      go true (suc zero) ih g = (target b i, false, e, refl)
      go true (suc (suc j)) ih g = ih j (omega arith)
      go false (suc j) ih g = ih j (omega arith)

  pub row_leads : (j : ℕ) → j < length (row_of R b p) → (graph_of R b).Edge p (get_or (row_of R b p) j 0)
  unfolding row_of
  row_leads j h = along_leads (to_of b p - from_of b p) (from_of b p) j (omega arith) (omega (arith, row_some b f (state_of b p) (state_in b p p_in))) h

  -- so it is a slot
  pub row_slots : (j : ℕ) → j < length (row_of R b p) → get_or (row_of R b p) j 0 < slots_of b
  row_slots j h = let (s', wish, e, d) = row_leads j h in rw d (next_in R b f p s' wish e)

  -- ---- and what is led to stands in it

  -- the two slots along target i, where v says whether nothing is saved, and then the rest
  abbrev pair : Bool → ℕ → List ℕ → List ℕ
  pair v i rest = (next_of R b p (target b i) true ∷ cond v (next_of R b p (target b i) false ∷ []) []) ++ rest

  pair_rest : (v : Bool) (i : ℕ) (rest : List ℕ) (x : ℕ) → Stands rest x → Stands (pair v i rest) x
  pair_rest true i rest x (j, d, e) = (suc (suc j), omega arith, e)
  pair_rest false i rest x (j, d, e) = (suc j, omega arith, e)

  -- where a state is saved both wishes lead to one slot
  pair_has : (v : Bool) → u ≡ v → (i : ℕ) (rest : List ℕ) (wish : Bool) → Stands (pair v i rest) (next_of R b p (target b i) wish)
  pair_has v q i rest true = (0, omega arith, refl)
  pair_has true q i rest false = (1, omega arith, refl)
  pair_has false q i rest false = (0, omega arith, ap (slot (block_of b)) (saved_forgets_wish R (block_of b) (at (block_of b) p) (target b i) (eqb-false _ _ q)))

  along_has : (k i i' : ℕ) (wish : Bool) → i ≤ i' → i' < i + k → Stands (along_from R b p i k) (next_of R b p (target b i') wish)
  unfolding along_from
  along_has zero i i' wish m g = absurd (omega arith)
  along_has (suc k) i i' wish m g = go (dec_lt i i') (λ q. along_has k (suc i) i' wish q (omega arith))
    where
      go : Dec (i < i') → (i < i' → Stands (along_from R b p (suc i) k) (next_of R b p (target b i') wish)) → Stands (pair u i (along_from R b p (suc i) k)) (next_of R b p (target b i') wish)
      go (yes q) ih = pair_rest u i _ _ (ih q)
      go (no q) ih = let d : i' ≡ i = omega arith in rw d (pair_has u refl i _ wish)

  pub row_has : (q : ℕ) → (graph_of R b).Edge p q → Stands (row_of R b p) q
  unfolding row_of
  row_has q (s', wish, e, d) =
      let (l, (i, g, h, t)) = (edge_is b (state_of b p) s').0 e in
      rw (d, ← t) (along_has (to_of b p - from_of b p) (from_of b p) i wish g (omega arith))

  -- ---- rising

  -- of two slots that p leads to, the one with the smaller label is the smaller
  next_order : (s' s'' : ℕ) (w w' : Bool) → (block_of b).edge (state_of b p) s' ≡ true → (block_of b).edge (state_of b p) s'' ≡ true
      → (graph_of R b).label (next_of R b p s' w) < (graph_of R b).label (next_of R b p s'' w') → next_of R b p s' w < next_of R b p s'' w'
  next_order s' s'' w w' e e' h =
      let B = block_of b in
      let ok = sound b f in
      (numbers_order R B ok (at B p) (saved_in _ _ p) (bits_in _ _ p) s' s'' w w' e e').0
      (rw (ap (number B) (at_next R B ok p s' w e), ap (number B) (at_next R B ok p s'' w' e')) at h)

  module _ (i : ℕ) (l : from_of b p ≤ i) where
    -- along one target: the saving step comes first
    pair_rises : i < to_of b p → u ≡ true → next_of R b p (target b i) true < next_of R b p (target b i) false
    pair_rises h q =
        let e = there i l h in
        next_order _ _ true false e e (omega (arith, label_saving R b f p (target b i) e, label_plain R b f p (target b i) e (eqb-true _ _ q ∙ block_states b)))

    -- and whatever is along target i comes before what is along the next
    next_rises : (w : Bool) → suc i < to_of b p → (w ≡ false → u ≡ true) → next_of R b p (target b i) w < next_of R b p (target b (suc i)) true
    next_rises w h q =
        let e = there i l (omega arith) in
        let e' = there (suc i) (omega arith) h in
        let t = row_rises_strictly b f (state_of b p) (state_in b p p_in) i (suc i) l (omega arith) h in
        next_order _ _ w true e e' (low w q e (label_saving R b f p (target b (suc i)) e') t)
      where
        low : (w : Bool) → (w ≡ false → u ≡ true) → (block_of b).edge (state_of b p) (target b i) ≡ true
            → (graph_of R b).label (next_of R b p (target b (suc i)) true) ≡ 2 * target b (suc i) → target b i < target b (suc i)
            → (graph_of R b).label (next_of R b p (target b i) w) < (graph_of R b).label (next_of R b p (target b (suc i)) true)
        low true q e d t = omega (arith, label_saving R b f p (target b i) e)
        low false q e d t = omega (arith, label_plain R b f p (target b i) e (eqb-true _ _ (q refl) ∙ block_states b))

  -- each is above the one before
  along_rises : (k i j : ℕ) → from_of b p ≤ i → i + k ≤ to_of b p → suc j < length (along_from R b p i k) → get_or (along_from R b p i k) j 0 < get_or (along_from R b p i k) (suc j) 0
  unfolding along_from
  along_rises zero i j l h g = absurd (omega arith)
  along_rises (suc k) i j l h g = go k u refl j (λ j. along_rises k (suc i) j (omega arith) (omega arith)) h g
    where
      go : (k : ℕ) (v : Bool) → u ≡ v → (j : ℕ)
          → ((j : ℕ) → suc j < length (along_from R b p (suc i) k) → get_or (along_from R b p (suc i) k) j 0 < get_or (along_from R b p (suc i) k) (suc j) 0)
          → i + suc k ≤ to_of b p → suc j < length (pair v i (along_from R b p (suc i) k))
          → get_or (pair v i (along_from R b p (suc i) k)) j 0 < get_or (pair v i (along_from R b p (suc i) k)) (suc j) 0
      go zero true q zero ih h g = pair_rises i l (omega arith) q
      go zero true q (suc j) ih h g = absurd (omega arith)
      go (suc k) true q zero ih h g = pair_rises i l (omega arith) q
      go (suc k) true q (suc zero) ih h g = next_rises i l false (omega arith) (λ _. q)
      go (suc k) true q (suc (suc j)) ih h g = ih j (omega arith)
      go zero false q j ih h g = absurd (omega arith)
      go (suc k) false q zero ih h g = next_rises i l true (omega arith) (λ e. absurd (true≢false e))
      go (suc k) false q (suc j) ih h g = ih j (omega arith)

  pub row_step : (j : ℕ) → suc j < length (row_of R b p) → get_or (row_of R b p) j 0 < get_or (row_of R b p) (suc j) 0
  unfolding row_of
  row_step j h = along_rises (to_of b p - from_of b p) (from_of b p) j (omega arith) (omega (arith, row_some b f (state_of b p) (state_in b p p_in))) h
