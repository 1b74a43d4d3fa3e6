-- The labels of what a slot leads to: the tie number 2·s', plus 1 where nothing is saved afterwards. docs/RULES.md, "Lasso and choice". Over any
-- flag. Assumes nothing.
use Rattle.std.specs.Prelude.{◌≡◌, refl, Bool, true, false, cond, List, ℕ, suc, ◌+◌, ◌*◌, ◌≤◌}
use Rattle.std.proofs.Common.{sym, ap, ◌∙◌, arith, eq-eqb, ne_eqb}
use Rattle.recorder.specs.Block.{Block}
use Rattle.recorder.specs.Flag.{Flag}
use Rattle.recorder.specs.Recorder.{save_of, unsaved, number}
use Rattle.recorder.proofs.Matching.{state_saved}
use Rattle.recorder.specs.SlotGraph.{at}
use Rattle.recorder.proofs.SlotGraph.{at_next}
use Rattle.recorder.specs.declared.Record.{Record}
use Rattle.table.specs.Layout.{states_of}
use Rattle.table.specs.BlockOf.{block_of}
use Rattle.table.specs.WellFormed.{WellFormed}
use Rattle.table.proofs.Sound.{sound}
use Rattle.table.specs.Recording.{graph_of, next_of}
use Rattle.table.proofs.Recording.{block_states}

module _ (F : Flag) (b : List ℕ) (w : WellFormed b) (x : ℕ) where
  abbrev B : Block
  B = block_of b

  abbrev r : Record
  r = at (block_of b) x

  -- the label of a step: 2·s', plus 1 where nothing is saved afterwards
  label_is : (s' : ℕ) (wish : Bool) → B.edge r.s s' ≡ true → (graph_of F b).label (next_of F b x s' wish) ≡ 2 * s' + cond (unsaved B (save_of B r wish)) 1 0
  label_is s' wish e = ap (number B) (at_next F B (sound b w) x s' wish e)

  -- with the wish on something is saved afterwards
  pub label_saving : (s' : ℕ) → B.edge r.s s' ≡ true → (graph_of F b).label (next_of F b x s' true) ≡ 2 * s'
  label_saving s' e = label_is s' true e ∙ go (unsaved B r.t) refl
    where
      go : (u : Bool) → unsaved B r.t ≡ u → 2 * s' + cond (unsaved B (cond u r.s r.t)) 1 0 ≡ 2 * s'
      go true q = rw (state_saved B r.s ((sound b w).edge_in _ _ e).0) (omega arith)
      go false q = rw q (omega arith)

  -- with the wish off nothing changes
  pub label_plain : (s' : ℕ) → B.edge r.s s' ≡ true → r.t ≡ states_of b → (graph_of F b).label (next_of F b x s' false) ≡ suc (2 * s')
  label_plain s' e q =
      let u : unsaved B r.t ≡ true = eq-eqb r.t B.n (q ∙ sym (block_states b)) in
      label_is s' false e ∙ rw u (omega arith)

  -- each label is 2·s' or one more, and 2·s' where a state is saved
  pub label_of : (y : ℕ) → (graph_of F b).Edge x y → (s' : ℕ) × (B.edge r.s s' ≡ true) × (2 * s' ≤ (graph_of F b).label y) × ((graph_of F b).label y ≤ 2 * s' + 1)
  label_of y (s', wish, e, q) = go (unsaved B (save_of B r wish)) (ap (graph_of F b).label q ∙ label_is s' wish e)
    where
      go : (u : Bool) → (graph_of F b).label y ≡ 2 * s' + cond u 1 0
          → (s' : ℕ) × (B.edge r.s s' ≡ true) × (2 * s' ≤ (graph_of F b).label y) × ((graph_of F b).label y ≤ 2 * s' + 1)
      go true d = (s', e, omega arith, omega arith)
      go false d = (s', e, omega arith, omega arith)

  pub label_of_saved : ¬ (r.t ≡ states_of b) → (y : ℕ) → (graph_of F b).Edge x y
      → (s' : ℕ) × (B.edge r.s s' ≡ true) × ((graph_of F b).label y ≡ 2 * s')
  label_of_saved h y (s', wish, e, q) = (s', e, ap (graph_of F b).label q ∙ label_is s' wish e ∙ go wish)
    where
      u : unsaved B r.t ≡ false
      u = ne_eqb r.t B.n (λ d. h (d ∙ block_states b))

      go : (wish : Bool) → 2 * s' + cond (unsaved B (save_of B r wish)) 1 0 ≡ 2 * s'
      go true = rw (u, u) (omega arith)
      go false = rw u (omega arith)
