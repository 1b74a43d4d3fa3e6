-- Laws of specs/FileRead.antt. Assumes nothing.
use Rattle.std.specs.Prelude.{◌≡◌, true, ◌↔◌, ℕ, suc, ◌+◌, ◌-◌, ◌*◌, ◌≤◌, ◌<◌, get_or}
use Rattle.std.proofs.Math.Path.{refl, ap}
use Rattle.std.proofs.Common.{sym, ◌∙◌, arith, length-append}
use mathlib.Core.List.{List, [], append_assoc, append-nil}
use Rattle.std.proofs.Math.ListN.{length}
use Rattle.table.specs.Layout.{kind_of, states_of, edges_of, sets_of, rows_offset, targets_offset, marks_offset, rows_at, targets_at, marks_at, length_of, byte_at, word_at, row_start, target, mark}
use Rattle.table.specs.BlockOf.{block_of}
use Rattle.table.proofs.Sound.{edge_is}
use Rattle.writing.specs.File.{listed, join_to, start_in, header_of, file_with}
use Rattle.writing.proofs.Listed.{length-listed, get_d_listed}
use Rattle.writing.proofs.Joined.{join_step, join_rise, in_row, row_of}
use Rattle.writing.proofs.Little.{length_little}
use Rattle.writing.proofs.Sections.{sections, read_header, read_start, read_target, read_mark}
use Rattle.writing.specs.FileRead.{Stands, RowsStrict, NumbersFit}

-- how long the file is
pub length_with : (kind m n : ℕ) (row : ℕ → List ℕ) (marks : ℕ → ℕ) → length (file_with kind m n row marks) ≡ length_of n (start_in row n)
unfolding file_with
length_with kind m n row marks = simp (length-append, length_little, length-listed) (omega arith)

module _ (kind m n : ℕ) (row : ℕ → List ℕ) (marks : ℕ → ℕ) (fits : NumbersFit kind m n row) where
  abbrev e : ℕ
  e = start_in row n

  abbrev F : List ℕ
  F = file_with kind m n row marks

  abbrev header : List ℕ
  header = header_of kind n e m

  abbrev starts : List ℕ
  starts = listed (start_in row) (suc n)

  in_sections : F ≡ sections header starts (join_to row n) (listed marks n) []
  unfolding file_with
  in_sections = simp (append_assoc, append-nil)

  -- ---- the header

  -- number i
  number_read : (i : ℕ) → i < 7 → get_or header i 0 < 4294967296 → word_at F (4 * i) ≡ get_or header i 0
  number_read i l h = ap (λ (x : List ℕ). word_at x (4 * i)) in_sections ∙ read_header header starts (join_to row n) (listed marks n) [] refl i l h

  pub kind_read : kind_of F ≡ kind
  kind_read = number_read 0 (omega arith) fits.kind_fits

  pub states_read : states_of F ≡ n
  states_read = number_read 1 (omega arith) (omega (arith, fits.offsets_fit))

  pub edges_read : edges_of F ≡ start_in row n
  edges_read = number_read 2 (omega arith) (omega (arith, fits.offsets_fit))

  pub sets_read : sets_of F ≡ m
  sets_read = number_read 3 (omega arith) fits.sets_fit

  pub rows_offset_read : rows_offset F ≡ rows_at
  rows_offset_read = number_read 4 (omega arith) (omega arith)

  pub targets_offset_read : targets_offset F ≡ targets_at n
  targets_offset_read = number_read 5 (omega arith) (omega (arith, fits.offsets_fit))

  pub marks_offset_read : marks_offset F ≡ marks_at n (start_in row n)
  marks_offset_read = number_read 6 (omega arith) fits.offsets_fit

  -- ---- the sections

  pub start_read : (s : ℕ) → s ≤ n → row_start F s ≡ start_in row s
  unfolding row_start
  start_read s h =
      let d = get_d_listed (start_in row) (suc n) s (omega arith) in
      ap (λ (x : List ℕ). word_at x (28 + 4 * s)) in_sections
      ∙ read_start header starts (join_to row n) (listed marks n) [] refl s (omega (arith, length-listed (start_in row) (suc n)))
      (omega (arith, d, join_rise row s n h, fits.offsets_fit))
      ∙ d

  -- each target is a state
  pub target_below : (i : ℕ) → i < start_in row n → get_or (join_to row n) i 0 < n
  target_below i h =
      let (s, l, g, k) = row_of row n i h in
      rw (in_row row n s i l g k) (fits.below s (i - start_in row s) l (omega (arith, join_step row s)))

  pub target_read : (i : ℕ) → i < start_in row n → target F i ≡ get_or (join_to row n) i 0
  unfolding target
  target_read i h =
      let d : 28 + 4 * (states_of F + 1) + 4 * i ≡ 28 + 4 * length starts + 4 * i = omega (arith, states_read, length-listed (start_in row) (suc n)) in
      ap (word_at F) d
      ∙ ap (λ (x : List ℕ). word_at x (28 + 4 * length starts + 4 * i)) in_sections
      ∙ read_target header starts (join_to row n) (listed marks n) [] refl i h (omega (arith, target_below i h, fits.offsets_fit))

  pub mark_read : (s : ℕ) → s < n → mark F s ≡ marks s
  unfolding mark
  mark_read s h =
      let d : 28 + 4 * (states_of F + 1) + 4 * edges_of F + s ≡ 28 + 4 * length starts + 4 * length (join_to row n) + s =
      omega (arith, states_read, edges_read, length-listed (start_in row) (suc n)) in
      ap (byte_at F) d
      ∙ ap (λ (x : List ℕ). byte_at x (28 + 4 * length starts + 4 * length (join_to row n) + s)) in_sections
      ∙ read_mark header starts (join_to row n) (listed marks n) [] refl s (omega (arith, length-listed marks n))
      ∙ get_d_listed marks n s h

  -- ---- the rows

  pub row_read : (s i : ℕ) → s < n → row_start F s ≤ i → i < row_start F (suc s) → target F i ≡ get_or (row s) (i - start_in row s) 0
  row_read s i l g h =
      let a = start_read s (omega arith) in
      let z = start_read (suc s) l in
      target_read i (omega (arith, join_rise row (suc s) n l)) ∙ in_row row n s i l (omega arith) (omega arith)

  -- from s to s' there is an edge of the file exactly if s' stands in row s
  pub edge_read : (s s' : ℕ) → ((block_of F).edge s s' ≡ true) ↔ ((s < n) × Stands (row s) s')
  edge_read s s' = (to, from)
    where
      to : (block_of F).edge s s' ≡ true → (s < n) × Stands (row s) s'
      to d =
          let (l, (i, g, h, t)) = (edge_is F s s').0 d in
          let k : s < n = omega (arith, states_read) in
          let a = start_read s (omega arith) in
          let z = start_read (suc s) k in
          (k, (i - start_in row s, omega (arith, join_step row s), sym (row_read s i k g h) ∙ t))

      from : (s < n) × Stands (row s) s' → (block_of F).edge s s' ≡ true
      from (k, (j, l, d)) =
          let a = start_read s (omega arith) in
          let z = start_read (suc s) k in
          let g : row_start F s ≤ start_in row s + j = omega arith in
          let h : start_in row s + j < row_start F (suc s) = omega (arith, join_step row s) in
          let c : start_in row s + j - start_in row s ≡ j = omega arith in
          let t = row_read s (start_in row s + j) k g h ∙ ap (λ (x : ℕ). get_or (row s) x 0) c ∙ d in
          (edge_is F s s').1 (omega (arith, states_read), (start_in row s + j, g, h, t))

  -- a row's targets rise strictly where the row does
  pub rises_read : RowsStrict n row → (s i : ℕ) → s < n → row_start F s ≤ i → suc i < row_start F (suc s) → target F i < target F (suc i)
  rises_read strict s i l g h =
      let a = start_read s (omega arith) in
      let z = start_read (suc s) l in
      let d : suc i - start_in row s ≡ suc (i - start_in row s) = omega arith in
      rw (row_read s i l g (omega arith), row_read s (suc i) l (omega arith) h, d) (strict s (i - start_in row s) l (omega (arith, join_step row s)))
