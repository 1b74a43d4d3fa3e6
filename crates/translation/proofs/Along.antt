-- The step from slot p along an edge, as the code takes it: once for a whole row, to state 0. Along an edge to s' the slot is s' times the slots of a
-- state further on. docs/RULES.md, "The recorder": the slot number. Then what the code writes for one target of the row. Assumes nothing.
use Rattle.std.specs.Prelude.{◌≡◌, refl, Bool, true, false, List, [], ◌∷◌, ℕ, ◌+◌, ◌*◌, ◌^◌, ◌≤◌, ◌<◌, length}
use Rattle.std.proofs.Math.Path.{sym, ap₂}
use Rattle.std.proofs.Common.{ap, ◌∙◌, arith}
use Rattle.recorder.specs.Flag.{Flag, live_flag}
use Rattle.recorder.specs.Recorder.{step_of, unsaved}
use Rattle.recorder.specs.Slots.{slot_of, InRange}
use Rattle.recorder.proofs.Slots.{slot_by_state}
use Rattle.recorder.specs.SlotGraph.{at}
use Rattle.recorder.specs.Says.{StepSays}
use Rattle.recorder.specs.declared.Record.{Record}
use Rattle.table.specs.BlockOf.{block_of}
use Rattle.table.specs.Layout.{little_endian, states_of, sets_of, target}
use Rattle.table.proofs.Row.{row_edge}
use Rattle.table.specs.Recording.{slots_of, next_of, state_of, from_of, to_of}
use Rattle.table.proofs.Recording.{block_states, state_in, next_in, next_in_range, step_slot}
use Rattle.table.specs.declared.Table.{Table}
use Rattle.writing.specs.Placed.{placed}
use Rattle.translation.specs.File.{along_of}
use Rattle.translation.specs.Asks.{Asks}
use Rattle.translation.proofs.Asks.{RecordAt, slots_small, slot_in, record_is, row_in}
use Rattle.translation.proofs.Writing.{Rowing, rowing_room, rowing_on, one_or_both, one_put, both_room, both_put, along_is}

-- q is the code's step to state 0, which is the rules'
module _ {b : List ℕ} {t : Table} {S p : ℕ} {r : Record} (a : Asks b t) (slots_are : S ≡ slots_of b) (h : (p < S) × RecordAt t p r) {goal : Bool} {fair : ℕ}
    (eg : goal ≡ (block_of b).goal r.s) (ef : fair ≡ (block_of b).fair r.s) (wish : Bool) {q : Record} (says : StepSays r t.states goal fair 0 wish q) where
  pub zero_is : q ≡ step_of live_flag (block_of b) (at (block_of b) p) 0 wish
  zero_is =
      says (block_of b) (record { states = block_states b ∙ sym a.laid.states_are; goal_is = sym eg; fair_is = sym ef })
      ∙ ap (λ (r : Record). step_of live_flag (block_of b) r 0 wish) (record_is a slots_are h)

-- q is the step to state 0, by any flag
module _ (R : Flag) {b : List ℕ} {t : Table} {S p : ℕ} {r : Record} (a : Asks b t) (slots_are : S ≡ slots_of b) (h : (p < S) × RecordAt t p r) (wish : Bool)
    {q : Record} (is : q ≡ step_of R (block_of b) (at (block_of b) p) 0 wish) where
  -- it is in range whether that is an edge or not, since some edge leaves p's state
  pub zero_range : (t.states ≤ 64) × (t.sets ≤ 8) × InRange t.states t.sets q
  zero_range =
      let edge = row_edge b a.formed (state_of b p) (state_in b p (slot_in a slots_are h)) (from_of b p) (omega arith) (row_in a slots_are h).0 in
      let i = next_in_range R b a.formed p _ wish edge in
      let range : InRange (states_of b) (sets_of b) (step_of R (block_of b) (at (block_of b) p) 0 wish) = record { s_in = omega (arith, i.s_in); t_in = i.t_in; v_in = i.v_in } in
      (a.laid.states_to, omega (arith, a.laid.sets_to), rw (a.laid.states_are, a.laid.sets_are, is) range)

  -- x is its slot, and a state has `each` slots
  pub along_slot : {x each : ℕ} → x ≡ slot_of t.states t.sets q → each ≡ 1 * (t.states + 1) * 2 ^ (t.sets + 1) → (s' : ℕ) → s' * each + x ≡ next_of R b p s' wish
  unfolding block_of
  along_slot {x} d e s' =
      let k = e ∙ ap₂ (λ (n m : ℕ). 1 * (n + 1) * 2 ^ (m + 1)) a.laid.states_are a.laid.sets_are in
      ap₂ (λ (k y : ℕ). s' * k + y) k (step_slot R b t a.laid p 0 wish q is x d)
      ∙ sym (slot_by_state (states_of b) (sets_of b) (step_of R (block_of b) (at (block_of b) p) s' wish))

-- ---- one target of the row

-- Target i of the row of slot p comes, which is the state s'. x and y are the slots along it, of the step that saves and of the other one, and both says
-- whether both are wanted.
pub record Along (R : Flag) (b w₀ : List ℕ) (t : Table) (p start : ℕ) (w : List ℕ) (i end : ℕ) (both : Bool) (s' x y : ℕ) : Type 0 where
  pub asks : Asks b t
  pub p_in : p < slots_of b
  pub row : Rowing R b w₀ p start w i end
  pub to : i < to_of b p
  pub target_is : s' ≡ target b i
  pub both_is : both ≡ unsaved (block_of b) (at (block_of b) p).t
  pub x_is : x ≡ next_of R b p s' true
  pub y_is : y ≡ next_of R b p s' false

module _ {R : Flag} {b w₀ : List ℕ} {t : Table} {p start : ℕ} {w : List ℕ} {i end : ℕ} {both : Bool} {s' x y : ℕ} (k : Along R b w₀ t p start w i end both s' x y) where
  -- it is an edge, so both slots are small
  edge : (block_of b).edge (state_of b p) s' ≡ true
  edge = ap ((block_of b).edge (state_of b p)) k.target_is ∙ row_edge b k.asks.formed (state_of b p) (state_in b p k.p_in) i k.row.from k.to

  pub small : (x < 4294967295) × (y < 4294967295)
  small = (
    omega (arith, k.x_is, next_in R b k.asks.formed p s' true edge, slots_small k.asks refl),
    omega (arith, k.y_is, next_in R b k.asks.formed p s' false edge, slots_small k.asks refl),
  )

  -- they are what slot p leads to along it, and there is room for them
  along : one_or_both both x y ≡ along_of R b p (target b i)
  along = along_is R b p s' k.both_is k.x_is k.y_is ∙ ap (along_of R b p) k.target_is

  room : end + 4 * length (one_or_both both x y) ≤ length w
  room = rowing_room k.row k.to along

  pub x_room : end + 4 ≤ length w
  x_room = omega (arith, room)

  -- once x is written
  module _ {w' : List ℕ} (e : w' ≡ placed end (little_endian (x ∷ [])) w) where
    -- that is all where one is wanted
    pub one_on : both ≡ false → Rowing R b w₀ p start w' (i + 1) (end + 4)
    one_on u = let (v, d) = one_put end x y w e u in rowing_on k.row k.to along d v

    -- where both are, y has room after it
    module _ (u : both ≡ true) where
      pub y_room : end + 4 + 4 ≤ length w'
      y_room = omega (arith, both_room end x y w e u room)

      pub both_on : {w'' : List ℕ} → w'' ≡ placed (end + 4) (little_endian (y ∷ [])) w' → Rowing R b w₀ p start w'' (i + 1) (end + 4 + 4)
      both_on d = let (v, d') = both_put end x y w e u room d in rowing_on k.row k.to along d' (omega (arith, v))
