-- Laws of specs/Laws.antt. Assumes nothing.
use Rattle.std.specs.Prelude.{Result, Ok, Err, ◌≡◌, refl, Bool, true, false, not, ◌↔◌, ℕ, ◌^◌, ◌≤◌, ◌<◌}
use Rattle.std.proofs.Common.{sym, ◌∙◌, true≢false, arith}
use mathlib.Core.Logic.Iff
use mathlib.Core.List.{List, []}
use Rattle.order.proofs.Settled.{settled}
use Rattle.recorder.specs.Flag.{live_flag}
use Rattle.recorder.specs.Recorder.{step_of}
use Rattle.recorder.specs.Slots.{slot_count, slot_of, InRange}
use Rattle.recorder.proofs.Successors.{step_below}
use Rattle.recorder.specs.declared.Record.{Record}
use Rattle.table.specs.Open.{open_of}
use Rattle.table.specs.InOrder.{end, ByTheList, position_after}
use Rattle.table.proofs.InOrder.{line, by_the_list}
use Rattle.table.specs.BlockOf.{block_of}
use Rattle.table.proofs.Facts.{facts}
use Rattle.table.specs.Layout.{states_of}
use Rattle.table.specs.WellFormed.{WellFormed}
use Rattle.table.specs.Inside.{MarkInside}
use Rattle.table.proofs.Inside.{mark_inside}
use Rattle.table.proofs.WellFormed.{well_formed, laid}
use Rattle.table.proofs.Sound.{sound}
use Rattle.table.specs.declared.Table.{Table}
use Rattle.table.specs.declared.refusal.Refusal.{Refusal}
use Rattle.table.specs.declared.refusal.Refusal.TheVariants.{WrongMark, WrongRecord, NoEdge}
use Rattle.stepping.specs.Step.{record_fits, step_lines, refusal_of, stepped_of}
use Rattle.stepping.specs.Laws.{MovedSays}

-- what line 12 says where it is not given, nested as the tests are
pub fits_says : (n m : ℕ) (r : Record) (s' : ℕ)
    → (record_fits n m r s' ≡ true) ↔ ((((r.s < n) × (s' < n)) × (r.t ≤ n)) × (r.v < 2 ^ m))
unfolding record_fits
fits_says n m r s' = simp facts Iff.rfl

-- the block counts as the accepted table does
pub block_counts : (b : List ℕ) (t : Table) → open_of b ≡ Ok t → ((block_of b).n ≡ t.states) × ((block_of b).m ≡ t.sets)
unfolding block_of
block_counts b t o = let l = laid b t o in (sym l.states_are, sym l.sets_are)

-- a table that was opened, once line 12 is passed: what the edge's test and the marks' readers ask
pub record Reads (b : List ℕ) (t : Table) (r : Record) : Type 0 where
  pub formed : WellFormed b
  pub state_in : (t.states ≡ states_of b) × (r.s < t.states)
  pub marks : MarkInside b t r.s

pub reads : (b : List ℕ) (t : Table) (r : Record) (s' : ℕ) → open_of b ≡ Ok t → record_fits t.states t.sets r s' ≡ true → Reads b t r
reads b t r s' o f =
    let k = laid b t o in
    let l = ((fits_says t.states t.sets r s').0 f).0.0.0 in
    record { formed = well_formed b t o; state_in = (k.states_are, l); marks = mark_inside b t k r.s l }

-- a refusal is no move
refused_not_moved : (why : Refusal) (r' : Record) → Err why ≡ Ok r' → ⊥
refused_not_moved why r' e = true≢false cc

module _ (b : List ℕ) (r : Record) (s' : ℕ) (wish : Bool) where
  -- ---- the answer, line by line

  pub table_refused : (why : Refusal) → open_of b ≡ Err why → Err why ≡ stepped_of b r s' wish
  unfolding stepped_of refusal_of
  table_refused why e = rw e

  module _ (t : Table) (o : open_of b ≡ Ok t) where
    pub record_refused : record_fits t.states t.sets r s' ≡ false → Err WrongRecord ≡ stepped_of b r s' wish
    unfolding stepped_of refusal_of step_lines
    record_refused f = simp (o, (block_counts b t o).0, (block_counts b t o).1, f)

    pub no_edge : record_fits t.states t.sets r s' ≡ true → (block_of b).edge r.s s' ≡ false → Err NoEdge ≡ stepped_of b r s' wish
    unfolding stepped_of refusal_of step_lines
    no_edge f e = simp (o, (block_counts b t o).0, (block_counts b t o).1, f, e)

    pub moves : record_fits t.states t.sets r s' ≡ true → (block_of b).edge r.s s' ≡ true
        → Ok (step_of live_flag (block_of b) r s' wish) ≡ stepped_of b r s' wish
    unfolding stepped_of refusal_of step_lines
    moves f e = simp (o, (block_counts b t o).0, (block_counts b t o).1, f, e)

  pub moved_says : (r' : Record) → stepped_of b r s' wish ≡ Ok r' → MovedSays b r s' wish r'
  moved_says r' e = go (open_of b) refl
    where
      tests : (t : Table) → open_of b ≡ Ok t → (x : Bool) → record_fits t.states t.sets r s' ≡ x
          → (y : Bool) → (block_of b).edge r.s s' ≡ y → MovedSays b r s' wish r'
      tests t o false f y g = absurd (refused_not_moved WrongRecord r' (record_refused t o f ∙ e))
      tests t o true f false g = absurd (refused_not_moved NoEdge r' (no_edge t o f g ∙ e))
      tests t o true f true g =
          let q = moves t o f g ∙ e in
          record { table = t; accepted = o; fits = f; edge = g; moved = cc }

      go : (a : Result Table Refusal) → open_of b ≡ a → MovedSays b r s' wish r'
      go (Err why) o = absurd (refused_not_moved why r' (table_refused why o ∙ e))
      go (Ok t) o = tests t o _ refl _ refl

  -- ---- what a reader may count on

  -- its lines stand in the list's order, after the table's, and the first that is given is the refusal
  pub step_by_the_list : ByTheList b (step_lines (block_of b) r s') (refusal_of b r s')
  unfolding refusal_of step_lines
  step_by_the_list =
      let last = line (position_after WrongRecord) (not ((block_of b).edge r.s s')) NoEdge [] (omega arith) end in
      by_the_list b _ (line (position_after (WrongMark 0)) (not (record_fits (block_of b).n (block_of b).m r s')) WrongRecord _ (omega arith) last)

  -- two answers that meet the statement of `step` are equal
  pub step_settled : (a a' : Result Record Refusal) → a ≡ stepped_of b r s' wish → a' ≡ stepped_of b r s' wish → a ≡ a'
  step_settled a a' = settled

  -- a record that moved is in range, its slot is below S, and it went along an edge
  pub moved_in_range : (r' : Record) → stepped_of b r s' wish ≡ Ok r'
      → InRange (block_of b).n (block_of b).m r'
      × (slot_of (block_of b).n (block_of b).m r' < slot_count (block_of b).n (block_of b).m)
      × ((block_of b).edge r.s s' ≡ true)
  moved_in_range r' e =
      let h = moved_says r' e in
      let (n-is, m-is) = block_counts b h.table h.accepted in
      let (((s_in, s'-in), t_in), v_in) = (fits_says (block_of b).n (block_of b).m r s').0 (rw (n-is, m-is) h.fits) in
      let ok = sound b (well_formed b h.table h.accepted) in
      let (in-range, below) = step_below live_flag (block_of b) ok r t_in v_in s' wish h.edge in
      rw h.moved (in-range, below, h.edge)
