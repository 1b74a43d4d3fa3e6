-- Laws of specs/Formed.antt. Assumes nothing.
use Rattle.std.specs.Prelude.{◌≡◌, List, ℕ, suc, ◌+◌, ◌≤◌, ◌<◌, Ok}
use Rattle.std.proofs.Math.Path.{sym, ap}
use Rattle.std.proofs.Common.{◌∙◌, arith}
use Rattle.table.specs.Layout.{states_of, edges_of, sets_of, row_start}
use Rattle.table.specs.Open.{open_of}
use Rattle.table.proofs.Bits.{low_bits}
use Rattle.table.specs.WellFormed.{WellFormed}
use Rattle.table.proofs.WellFormed.{accepted}
use Rattle.writing.specs.File.{join_to, start_in, file_with}
use Rattle.writing.proofs.Joined.{join_step, join_rise}
use Rattle.writing.proofs.FileRead as file
use Rattle.writing.specs.FileRead.{NumbersFit}
use Rattle.writing.specs.Formed.{InLimits, Has, NoneEmpty}

-- ---- the proof

module _ (m n : ℕ) (row : ℕ → List ℕ) (marks : ℕ → ℕ) (within : InLimits m n row marks) where
  abbrev F : List ℕ
  F = file_with 1 m n row marks

  fits : NumbersFit 1 m n row
  fits = record {
    kind_fits = omega arith;
    sets_fit = omega (arith, within.sets_to);
    offsets_fit = omega (arith, within.states_to, within.edges_to);
    below = within.below;
  }

  states_is : states_of F ≡ n
  states_is = file.states_read 1 m n row marks fits

  edges_is : edges_of F ≡ start_in row n
  edges_is = file.edges_read 1 m n row marks fits

  sets_is : sets_of F ≡ m
  sets_is = file.sets_read 1 m n row marks fits

  start_is : (s : ℕ) → s ≤ n → row_start F s ≡ start_in row s
  start_is = file.start_read 1 m n row marks fits

  -- where no row is empty there is a target, and no row starts where the next one does
  filled : NoneEmpty n row → (1 ≤ edges_of F) × ((s : ℕ) → s < states_of F → ¬ (row_start F s ≡ row_start F (suc s)))
  filled full = (
    omega (arith, edges_is, within.states_from, full 0 within.states_from, join_step row 0, join_rise row 1 n within.states_from),
    λ s h e. let l : s < n = omega (arith, states_is) in omega (arith, e, start_is s (omega arith), start_is (suc s) l, join_step row s, full s l),
  )

  -- the file is one that "The table file" describes
  pub file_well_formed : NoneEmpty n row → WellFormed (file_with 1 m n row marks)
  unfolding join_to
  file_well_formed full =
      let size = file.length_with 1 m n row marks in
      let (some-edge, no_empty) = filled full in
      record {
        header = omega arith;
        kind = file.kind_read 1 m n row marks fits;
        states_from = omega (arith, states_is, within.states_from);
        states_to = omega (arith, states_is, within.states_to);
        edges_from = some-edge;
        edges_to = omega (arith, edges_is, within.edges_to);
        sets_to = omega (arith, sets_is, within.sets_to);
        rows_offset_is = file.rows_offset_read 1 m n row marks fits;
        targets_offset_is = file.targets_offset_read 1 m n row marks fits ∙ rw states_is;
        marks_offset_is = file.marks_offset_read 1 m n row marks fits ∙ rw (states_is, edges_is);
        size = size ∙ rw (states_is, edges_is);
        rows = record {
          first_row = start_is 0 (omega arith);
          rows_rise = λ s h. let l : s < n = omega (arith, states_is) in omega (arith, start_is s (omega arith), start_is (suc s) l, join_step row s);
          last_row = ap (row_start F) states_is ∙ start_is n (omega arith) ∙ sym edges_is;
        };
        targets_in = λ i h. let l : i < start_in row n = omega (arith, edges_is) in
            omega (arith, states_is, file.target_read 1 m n row marks fits i l, file.target_below 1 m n row marks fits i l);
        targets_rise = λ s i h. file.rises_read 1 m n row marks fits within.strict s i (omega (arith, states_is));
        no_empty = no_empty;
        marks_clear = λ s h i k. let l : s < n = omega (arith, states_is) in
            rw (file.mark_read 1 m n row marks fits s l) ((low_bits (marks s) (2 + m)).0 (within.marks_below s l) i (omega (arith, sets_is)));
      }

  -- so opening accepts it, with its counts
  pub file_accepted : NoneEmpty n row → open_of (file_with 1 m n row marks) ≡ Ok (record { states = n; edges = start_in row n; sets = m })
  file_accepted full = (accepted F).1 (file_well_formed full) ∙ rw (states_is, edges_is, sets_is)

  -- and it has what it was made of
  pub file_has : Has m n row marks (file_with 1 m n row marks)
  file_has = record {
    states_are = states_is;
    edges_are = edges_is;
    sets_are = sets_is;
    rows_are = file.edge_read 1 m n row marks fits;
    marks_are = file.mark_read 1 m n row marks fits;
  }
