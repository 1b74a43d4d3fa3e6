-- Laws of specs/Marks.antt. Assumes nothing.
use Rattle.std.specs.Prelude.{◌≡◌, refl, Bool, true, false, ◌&&◌, ◌↔◌, List, ℕ, ◌+◌, ◌*◌, ◌/◌, ◌%◌, ◌≤◌, ◌<◌}
use Rattle.std.proofs.Common.{sym, ap₂, ◌∙◌, true≢false, arith, eqb-true, eq-eqb}
use Rattle.std.proofs.Math.Path.{ap}
use Rattle.std.proofs.Math.Decide.{dec_lt}
use Rattle.std.proofs.Math.Dec.{eqb}
use Rattle.std.proofs.Math.ListN.{get_or-eq_default}
use Rattle.order.proofs.Tests.{both}
use Rattle.recorder.specs.Block.{Sound}
use Rattle.recorder.specs.Flag.{Flag}
use Rattle.recorder.specs.Recorder.{start_of, bad_of}
use Rattle.recorder.specs.Slots.{bit_of}
use Rattle.recorder.specs.SlotGraph.{at, slot}
use Rattle.recorder.proofs.SlotGraph.{at_start}
use Rattle.recorder.specs.declared.Record.{Record}
use Rattle.table.specs.Layout.{mark}
use Rattle.table.specs.BlockOf.{block_of}
use Rattle.table.specs.WellFormed.{WellFormed}
use Rattle.table.proofs.Sound.{sound}
use Rattle.table.specs.Recording.{slots_of, graph_of, state_of}
use Rattle.table.proofs.Recording.{block_states, start_below}
use Rattle.translation.specs.File.{is_start, slot_mark, file_of}
use Rattle.translation.proofs.Counts.{all_targets, length_file}
use Rattle.translation.proofs.ReadBack.{states_read, edges_read, mark_read}
use Rattle.translation.specs.Marks.{bad_in}

-- a mark of three bits, read bit by bit
three_bits : (a c d : Bool) → let x = bit_of a + 2 * bit_of c + 64 * bit_of d in (eqb (x % 2) 1 ≡ a) × (eqb (x / 2 % 2) 1 ≡ c) × (eqb (x / 64 % 2) 1 ≡ d)
three_bits true true true = (refl, refl, refl)
three_bits true true false = (refl, refl, refl)
three_bits true false true = (refl, refl, refl)
three_bits true false false = (refl, refl, refl)
three_bits false true true = (refl, refl, refl)
three_bits false true false = (refl, refl, refl)
three_bits false false true = (refl, refl, refl)
three_bits false false false = (refl, refl, refl)

bit_zero : (a c d : Bool) → eqb ((bit_of a + 2 * bit_of c + 64 * bit_of d) % 2) 1 ≡ a
bit_zero a c d = (three_bits a c d).0

bit_one : (a c d : Bool) → eqb ((bit_of a + 2 * bit_of c + 64 * bit_of d) / 2 % 2) 1 ≡ c
bit_one a c d = (three_bits a c d).1

bit_six : (a c d : Bool) → eqb ((bit_of a + 2 * bit_of c + 64 * bit_of d) / 64 % 2) 1 ≡ d
bit_six a c d = (three_bits a c d).2

-- what the block of any bytes reads of a mark
start_is : (c : List ℕ) (p : ℕ) → (block_of c).start p ≡ eqb (mark c p % 2) 1
unfolding block_of
start_is c p = refl

goal_is : (c : List ℕ) (p : ℕ) → (block_of c).goal p ≡ eqb (mark c p / 2 % 2) 1
unfolding block_of
goal_is c p = refl

-- the test of a start
is_start_lem : (R : Flag) (b : List ℕ) (p : ℕ) → is_start R b p ≡ true → (graph_of R b).Start p
unfolding is_start
is_start_lem R b p e = let (h, d) = both _ _ e in (state_of b p, h, eqb-true _ _ d)

start_is_start : (R : Flag) (b : List ℕ) (p s : ℕ) → state_of b p ≡ s → (block_of b).start s ≡ true → p ≡ slot (block_of b) (start_of R (block_of b) s) → is_start R b p ≡ true
unfolding is_start
start_is_start R b p s a h d = ap (λ (s : ℕ). (block_of b).start s && eqb p (slot (block_of b) (start_of R (block_of b) s))) a ∙ ap₂ ◌&&◌ h (eq-eqb _ _ d)

-- the slot of a start record is a slot
pub start_slot_lem : (R : Flag) (b : List ℕ) (f : WellFormed b) (s : ℕ) → (block_of b).start s ≡ true
    → slot (block_of b) (start_of R (block_of b) s) < slots_of b
start_slot_lem R b f s h = start_below R b s (omega (arith, block_states b, (sound b f).start_in s h))

module _ (R : Flag) (b : List ℕ) (f : WellFormed b) where
  abbrev F : List ℕ
  F = file_of R b

  -- past the last slot there are no marks: the bytes end
  no_mark : (p : ℕ) → slots_of b ≤ p → mark F p ≡ 0
  unfolding mark
  no_mark p h = get_or-eq_default F 0 (omega (arith, length_file R b f, all_targets R b f, states_read R b f, edges_read R b f))

  module _ (p : ℕ) (p_in : p < slots_of b) where
    abbrev goal : Bool
    goal = (block_of b).goal (state_of b p)

    abbrev bad : Bool
    bad = bad_of (block_of b) (at (block_of b) p)

    bits : mark F p ≡ bit_of (is_start R b p) + 2 * bit_of goal + 64 * bit_of bad
    unfolding slot_mark
    bits = mark_read R b f p p_in

    pub start_mark : (block_of F).start p ≡ is_start R b p
    start_mark = start_is F p ∙ ap (λ (x : ℕ). eqb (x % 2) 1) bits ∙ bit_zero (is_start R b p) goal bad

    pub goal_mark : (block_of F).goal p ≡ (block_of b).goal (state_of b p)
    goal_mark = goal_is F p ∙ ap (λ (x : ℕ). eqb (x / 2 % 2) 1) bits ∙ bit_one (is_start R b p) goal bad

    pub bad_mark : bad_in F p ≡ bad_of (block_of b) (at (block_of b) p)
    unfolding bad_in
    bad_mark = ap (λ (x : ℕ). eqb (x / 64 % 2) 1) bits ∙ bit_six (is_start R b p) goal bad

  -- a slot is a start of the file exactly if it is one of the slot graph
  pub start_read : (p : ℕ) → ((block_of F).start p ≡ true) ↔ (graph_of R b).Start p
  start_read p = (to, from)
    where
      ok : Sound (block_of b)
      ok = sound b f

      to : (block_of F).start p ≡ true → (graph_of R b).Start p
      to e = go (dec_lt p (slots_of b))
        where
          go : Dec (p < slots_of b) → (graph_of R b).Start p
          go (yes l) = is_start_lem R b p (sym (start_mark p l) ∙ e)
          go (no l) = absurd (true≢false (sym e ∙ start_is F p ∙ ap (λ (x : ℕ). eqb (x % 2) 1) (no_mark p (omega arith))))

      from : (graph_of R b).Start p → (block_of F).start p ≡ true
      from (s, h, d) =
          let a : state_of b p ≡ s = ap (state_of b) d ∙ ap (λ (r : Record). r.s) (at_start R (block_of b) ok s h) in
          let l : p < slots_of b = rw d (start_slot_lem R b f s h) in
          start_mark p l ∙ start_is_start R b p s a h d
