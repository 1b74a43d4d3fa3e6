-- The turn of an index, along the row of its slot's state. One that has come to target i has dealt with all labels below `floor_at`: none
-- at the row's first target, else those of the target before. One law for each step of the row. Over any flag. Assumes nothing.
use Rattle.std.specs.Prelude.{◌≡◌, refl, true, false, cond, List, ℕ, suc, ◌+◌, ◌-◌, ◌*◌, ◌≤◌, ◌<◌, eqb}
use Rattle.std.proofs.Common.{ap, ◌∙◌, arith, eq-eqb, ne_eqb}
use Rattle.std.proofs.Math.Decide.{dec_lt}
use Rattle.order.specs.Log.{Queue}
use Rattle.order.specs.Turn.{Between, Turning}
use Rattle.order.proofs.Turn.{turn_begins, turn_skips, turn_ends}
use Rattle.recorder.specs.Flag.{Flag}
use Rattle.table.specs.Layout.{states_of, target}
use Rattle.table.specs.BlockOf.{block_of}
use Rattle.table.specs.WellFormed.{WellFormed}
use Rattle.table.proofs.Row.{row_some, row_gap, row_last, row_edge}
use Rattle.table.proofs.Labels.{label_saving, label_plain, label_of, label_of_saved}
use Rattle.table.specs.Recording.{graph_of, next_of, state_of, from_of, to_of}
use Rattle.table.proofs.Recording.{Unsaved}

-- all labels below this one are dealt with when a turn has come to index i of the row that starts at `from`
unfoldable pub floor_at : List ℕ → ℕ → ℕ → ℕ
floor_at b from i = cond (eqb i from) 0 (2 * target b (i - 1) + 2)

floor_first : (b : List ℕ) (from : ℕ) → floor_at b from from ≡ 0
unfolding floor_at
floor_first b from = rw (eq-eqb from from refl)

floor_after : (b : List ℕ) (from i : ℕ) → from < i → floor_at b from i ≡ 2 * target b (i - 1) + 2
unfolding floor_at
floor_after b from i h = rw (ne_eqb i from (λ e. omega arith))

-- ---- the steps of a row, in the turn of head, whose slot's state owns the row

-- the turn has dealt with all labels below L
abbrev pub Upto : Flag → List ℕ → Queue → ℕ → ℕ → ℕ → Type 0
Upto F b q head tail L = Turning (graph_of F b) q head tail L

module _ (F : Flag) (b : List ℕ) (w : WellFormed b) (q : Queue) (head tail x : ℕ) (is : q.node head ≡ x) where
  -- the row begins
  pub row_begins : Between (graph_of F b) q head tail → head < tail → Upto F b q head tail (floor_at b (from_of b x) (from_of b x))
  row_begins t h = rw (floor_first b (from_of b x)) (turn_begins t h)

  module _ (s_in : state_of b x < states_of b) where
    module _ (i : ℕ) (f : from_of b x ≤ i) (g : i < to_of b x) where
      edge : (block_of b).edge (state_of b x) (target b i) ≡ true
      edge = row_edge b w (state_of b x) s_in i f g

      first_label : (graph_of F b).label (next_of F b x (target b i) true) ≡ 2 * target b i
      first_label = label_saving F b w x (target b i) edge

      -- after target i come those above it
      floor_next : floor_at b (from_of b x) (i + 1) ≡ 2 * target b i + 2
      floor_next = let p : i + 1 - 1 ≡ i = omega arith in floor_after b (from_of b x) (i + 1) (omega arith) ∙ ap (λ (j : ℕ). 2 * target b j + 2) p

      -- the first step along target i is next
      pub row_next : Upto F b q head tail (floor_at b (from_of b x) i) → Upto F b q head tail ((graph_of F b).label (next_of F b x (target b i) true))
      row_next t = turn_skips _ t (rw first_label (low (dec_lt (from_of b x) i))) skip
        where
          -- an edge to a state below target i goes to a target before it
          skip : (y : ℕ) → (graph_of F b).Edge (q.node head) y → (graph_of F b).label y < (graph_of F b).label (next_of F b x (target b i) true) → (graph_of F b).label y < floor_at b (from_of b x) i
          skip y e l =
              let (s', d, lo, hi) = label_of F b w x y (rw is at e) in
              let (p, k) = row_gap b w (state_of b x) s_in i s' f g d (omega (arith, first_label)) in
              rw (floor_after b (from_of b x) i p) (omega arith)

          low : Dec (from_of b x < i) → floor_at b (from_of b x) i ≤ 2 * target b i
          low (yes p) =
              let d : suc (i - 1) ≡ i = omega arith in
              let h = w.targets_rise (state_of b x) (i - 1) s_in (omega arith) (omega arith) in
              rw (floor_after b (from_of b x) i p) (omega (arith, ap (target b) d))
          low (no p) = let d : from_of b x ≡ i = omega arith in rw (← d, floor_first b (from_of b x)) (omega arith)

      -- with nothing saved, the other step along target i is next after it
      pub row_other : Unsaved b x → Upto F b q head tail (suc ((graph_of F b).label (next_of F b x (target b i) true))) → Upto F b q head tail ((graph_of F b).label (next_of F b x (target b i) false))
      row_other e t = rw (label_plain F b w x (target b i) edge e, ← first_label) t

      -- and then target i is done; with a state saved it is done after the first
      pub row_done : Unsaved b x → Upto F b q head tail (suc ((graph_of F b).label (next_of F b x (target b i) false))) → Upto F b q head tail (floor_at b (from_of b x) (i + 1))
      row_done e t =
          let d : suc (suc (2 * target b i)) ≡ 2 * target b i + 2 = omega arith in
          rw (floor_next, ← d) (rw (label_plain F b w x (target b i) edge e) at t)

      pub row_done_saved : ¬ Unsaved b x → Upto F b q head tail (suc ((graph_of F b).label (next_of F b x (target b i) true))) → Upto F b q head tail (floor_at b (from_of b x) (i + 1))
      row_done_saved h t = rw floor_next (turn_skips _ t (omega (arith, first_label)) skip)
        where
          skip : (y : ℕ) → (graph_of F b).Edge (q.node head) y → (graph_of F b).label y < 2 * target b i + 2 → (graph_of F b).label y < suc ((graph_of F b).label (next_of F b x (target b i) true))
          skip y e l = let (s', d, k) = label_of_saved F b w x h y (rw is at e) in omega (arith, first_label)

    -- the row ends
    pub row_ends : Upto F b q head tail (floor_at b (from_of b x) (to_of b x)) → Between (graph_of F b) q (suc head) tail
    row_ends t = turn_ends t (λ y e.
        let (s', d, lo, hi) = label_of F b w x y (rw is at e) in
        rw (floor_after b (from_of b x) (to_of b x) (row_some b w (state_of b x) s_in)) (omega (arith, row_last b w (state_of b x) s_in s' d)))
