-- The translated file, read back with the table's own reading functions: its counts, row starts, targets and marks; from slot p to slot q there is an
-- edge exactly if the slot graph has one; rows rise strictly. docs/RULES.md, "Translated table". By any flag R. Assumes nothing.
use Rattle.std.specs.Prelude.{◌≡◌, true, ◌↔◌, List, ℕ, suc, ◌-◌, ◌≤◌, ◌<◌, get_or}
use Rattle.std.proofs.Common.{arith}
use Rattle.recorder.specs.Flag.{Flag}
use Rattle.recorder.proofs.Fits.{count_small}
use Rattle.table.specs.Layout.{kind_of, states_of, edges_of, sets_of, row_start, target, mark}
use Rattle.table.specs.BlockOf.{block_of}
use Rattle.table.specs.WellFormed.{WellFormed}
use Rattle.table.specs.Recording.{slots_of, graph_of}
use Rattle.quote.proofs.Sizes.{edges_small}
use Rattle.writing.proofs.FileRead as file
use Rattle.writing.specs.FileRead.{NumbersFit}
use Rattle.translation.specs.File.{row_of, targets_to, start_of_row, slot_mark, file_of}
use Rattle.translation.proofs.Counts.{all_targets}
use Rattle.translation.proofs.Leads.{row_leads, row_slots, row_has, row_step}

module _ (R : Flag) (b : List ℕ) (f : WellFormed b) where
  abbrev S : ℕ
  S = slots_of b

  abbrev E : ℕ
  E = start_of_row R b (slots_of b)

  abbrev F : List ℕ
  F = file_of R b

  -- the numbers of the file fit in 32 bits
  fits : NumbersFit 2 0 S (row_of R b)
  fits = record {
    kind_fits = omega arith;
    sets_fit = omega arith;
    offsets_fit = omega (
      arith,
      count_small (states_of b) (sets_of b) f.states_to (omega (arith, f.sets_to)),
      all_targets R b f,
      edges_small (states_of b) (edges_of b) (sets_of b) f.states_to f.edges_to (omega (arith, f.sets_to)),
    );
    below = λ p j l. row_slots R b f p l j;
  }

  -- ---- the counts
  pub kind_read : kind_of F ≡ 2
  unfolding file_of
  kind_read = file.kind_read 2 0 S (row_of R b) (slot_mark R b) fits

  pub states_read : states_of F ≡ S
  unfolding file_of
  states_read = file.states_read 2 0 S (row_of R b) (slot_mark R b) fits

  pub edges_read : edges_of F ≡ E
  unfolding file_of
  edges_read = file.edges_read 2 0 S (row_of R b) (slot_mark R b) fits

  pub sets_read : sets_of F ≡ 0
  unfolding file_of
  sets_read = file.sets_read 2 0 S (row_of R b) (slot_mark R b) fits

  -- ---- the sections
  pub start_read : (p : ℕ) → p ≤ S → row_start F p ≡ start_of_row R b p
  unfolding file_of
  start_read = file.start_read 2 0 S (row_of R b) (slot_mark R b) fits

  pub target_read : (i : ℕ) → i < E → target F i ≡ get_or (targets_to R b S) i 0
  unfolding file_of
  target_read = file.target_read 2 0 S (row_of R b) (slot_mark R b) fits

  pub mark_read : (p : ℕ) → p < S → mark F p ≡ slot_mark R b p
  unfolding file_of
  mark_read = file.mark_read 2 0 S (row_of R b) (slot_mark R b) fits

  -- ---- the rows
  pub row_read : (p i : ℕ) → p < S → row_start F p ≤ i → i < row_start F (suc p) → target F i ≡ get_or (row_of R b p) (i - start_of_row R b p) 0
  unfolding file_of
  row_read = file.row_read 2 0 S (row_of R b) (slot_mark R b) fits

  -- from slot p to slot q there is an edge of the file exactly if the slot graph has one
  pub edge_read : (p q : ℕ) → ((block_of F).edge p q ≡ true) ↔ ((p < S) × (graph_of R b).Edge p q)
  unfolding file_of
  edge_read p q =
      let both = file.edge_read 2 0 S (row_of R b) (slot_mark R b) fits p q in (
        λ e. let (l, (j, h, d)) = both.0 e in (l, rw (← d) (row_leads R b f p l j h)),
        λ (l, e). both.1 (l, row_has R b f p l q e),
      )

  -- a row's targets rise strictly
  pub rises_read : (p i : ℕ) → p < S → row_start F p ≤ i → suc i < row_start F (suc p) → target F i < target F (suc i)
  unfolding file_of
  rises_read = file.rises_read 2 0 S (row_of R b) (slot_mark R b) fits (λ p j l. row_step R b f p l j)
