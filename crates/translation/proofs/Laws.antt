-- Laws of a translation: its answer line by line of the refusal list, its output part by part, and that its statement settles both.
-- docs/RULES.md, "Refusal list" and "Strength of the statements". Assumes nothing.
use Rattle.std.specs.Prelude.{◌≡◌, refl, ℕ, suc, ◌+◌, ◌-◌, ◌*◌, ◌^◌, ◌≤◌, ◌<◌, ltb, take, Result, Ok, Err, Option, None, Some}
use Rattle.std.proofs.Common.{sym, ◌∙◌, arith, length-append}
use Rattle.std.proofs.Math.Path.{ap, ap₂}
use mathlib.Core.List.{List, [], ◌++◌}
use Rattle.std.proofs.Math.ListN.{length, drop}
use borrow.Author.Tests.{lt-ltb, le-ltb}
use Rattle.recorder.specs.Flag.{Flag, live_flag}
use Rattle.recorder.specs.Slots.{slot_count}
use Rattle.recorder.proofs.Fits.{count_small}
use Rattle.quote.specs.Sizes.{edge_count}
use Rattle.quote.proofs.Sizes.{edges_small}
use Rattle.table.specs.Layout.{little_endian, states_of, edges_of, sets_of}
use Rattle.table.specs.Open.{open_of}
use Rattle.table.specs.InOrder.{end, ByTheList, position_after}
use Rattle.table.proofs.InOrder.{line, by_the_list}
use Rattle.table.specs.WellFormed.{WellFormed}
use Rattle.table.specs.LaidOut.{LaidOut}
use Rattle.table.proofs.WellFormed.{well_formed, laid}
use Rattle.table.specs.declared.Table.{Table}
use Rattle.table.specs.declared.refusal.Refusal.{Refusal}
use Rattle.table.specs.declared.refusal.Refusal.TheVariants.{WrongMark, ShortOutput}
use Rattle.table.specs.Recording.{slots_of}
use Rattle.writing.specs.File.{listed, header_of, file_with}
use Rattle.writing.proofs.Listed.{length-listed}
use Rattle.writing.proofs.Little.{length_little}
use Rattle.writing.specs.Placed.{placed}
use Rattle.writing.proofs.Placed.{length-placed, part_length, part_on}
use Rattle.translation.specs.Asks.{Asks}
use Rattle.translation.specs.File.{start_of_row, targets_to, slot_mark, file_of}
use Rattle.translation.proofs.Counts.{all_targets, length_file}
use Rattle.translation.specs.Translated.{size_of, translate_lines, refusal_of, TranslateFor, TranslateSays}

-- ---- the answer, line by line

module _ (b out : List ℕ) where
  refused_says : (why : Refusal) → refusal_of b out ≡ Some why → TranslateSays b out (Err why) out
  unfolding TranslateSays
  refused_says why e = rw e (refl, refl)

  pub table_refused : (why : Refusal) → open_of b ≡ Err why → TranslateSays b out (Err why) out
  unfolding refusal_of
  table_refused why o = refused_says why (rw o)

  module _ (t : Table) (o : open_of b ≡ Ok t) where
    pub short_output : length out < size_of b → TranslateSays b out (Err ShortOutput) out
    unfolding refusal_of translate_lines
    short_output h = refused_says ShortOutput (rw (o, lt-ltb (length out) (size_of b) h))

    pub translated : size_of b ≤ length out → (size : ℕ) → size ≡ size_of b → (out' : List ℕ) → out' ≡ placed 0 (file_of live_flag b) out → WellFormed b
        → TranslateSays b out (Ok size) out'
    unfolding TranslateSays refusal_of translate_lines placed
    translated h size e out' d f =
        let l : 0 + length (file_of live_flag b) ≡ size_of b = omega (arith, length_file live_flag b f) in
        rw (o, le-ltb (length out) (size_of b) h) (ap Ok e, d ∙ ap (λ (k : ℕ). file_of live_flag b ++ drop k out) l)

-- its line stands in the list's order, after the table's, and the first that is given is the refusal
pub translate_by_the_list : (b out : List ℕ) → ByTheList b (translate_lines (size_of b) out) (refusal_of b out)
unfolding refusal_of translate_lines
translate_by_the_list b out = by_the_list b _ (line (position_after (WrongMark 0)) (ltb (length out) (size_of b)) ShortOutput [] (omega arith) end)

-- two results that meet the statement, answer and output, are equal
pub translate_unique : (b out : List ℕ) (a a' : Result ℕ Refusal) (w w' : List ℕ) → TranslateSays b out a w → TranslateSays b out a' w' → (a ≡ a') × (w ≡ w')
unfolding TranslateSays
translate_unique b out a a' w w' = go (refusal_of b out)
  where
    go : (o : Option Refusal) → TranslateFor o b out a w → TranslateFor o b out a' w' → (a ≡ a') × (w ≡ w')
    go (Some why) (p, q) (p', q') = (p ∙ sym p', q ∙ sym q')
    go None (p, q) (p', q') = (p ∙ sym p', q ∙ sym q')

-- ---- the output, part by part

-- the edges by the table that was opened
pub edges_counted : {b : List ℕ} {t : Table} {E : ℕ} → LaidOut b t → E ≡ edge_count t.states t.edges t.sets → E ≡ edge_count (states_of b) (edges_of b) (sets_of b)
edges_counted l e = e ∙ rw (l.states_are, l.edges_are, l.sets_are)

-- the slots and the edges of an accepted table are counted
pub record Counted (b : List ℕ) (S E : ℕ) : Type 0 where
  pub formed : WellFormed b
  pub slots_are : S ≡ slots_of b
  pub edges_are : E ≡ edge_count (states_of b) (edges_of b) (sets_of b)

-- where the table t was opened, what the writers ask is met, and the numbers that the code counts by t are those
module _ {b : List ℕ} {t : Table} (o : open_of b ≡ Ok t) where
  pub asked : Asks b t
  asked = record { formed = well_formed b t o; laid = laid b t o }

  pub counted : {S E : ℕ} → S ≡ slot_count t.states t.sets → E ≡ edge_count t.states t.edges t.sets → Counted b S E
  counted s e = let l = asked.laid in record { formed = asked.formed; slots_are = s ∙ ap₂ slot_count l.states_are l.sets_are; edges_are = edges_counted l e }

module _ {b : List ℕ} {S E : ℕ} (k : Counted b S E) where
  pub size_is : 32 + 4 * S + 4 * E + S ≡ size_of b
  size_is = omega (arith, k.slots_are, k.edges_are)

  -- all of it is small
  pub sizes_small : (S ≤ 64 * 65 * 2 ^ 9) × (E ≤ 1024 * 66 * 2 ^ 9)
  sizes_small =
      let f = k.formed in (
        omega (arith, k.slots_are, count_small (states_of b) (sets_of b) f.states_to (omega (arith, f.sets_to))),
        omega (arith, k.edges_are, edges_small (states_of b) (edges_of b) (sets_of b) f.states_to f.edges_to (omega (arith, f.sets_to))),
      )

-- the parts, by any flag R
module _ (R : Flag) {b : List ℕ} {S E : ℕ} (k : Counted b S E) where
  targets_are : start_of_row R b S ≡ E
  targets_are = ap (start_of_row R b) k.slots_are ∙ all_targets R b k.formed ∙ sym k.edges_are

  module _ (out : List ℕ) (room : 32 + 4 * S + 4 * E + S ≤ length out) where
    abbrev header : List ℕ
    header = little_endian (header_of 2 S E 0)

    abbrev rows : List ℕ
    rows = little_endian (listed (start_of_row R b) (suc S))

    abbrev targets : List ℕ
    targets = little_endian (targets_to R b S)

    abbrev marks : List ℕ
    marks = listed (slot_mark R b) S

    -- how long they are
    rows_length : length (header ++ rows) ≡ 32 + 4 * S
    rows_length = length-append header rows ∙ omega (arith, length_little (listed (start_of_row R b) (suc S)), length-listed (start_of_row R b) (suc S))

    targets_length : length (header ++ rows ++ targets) ≡ 32 + 4 * S + 4 * E
    targets_length = length-append (header ++ rows) targets ∙ omega (arith, rows_length, length_little (targets_to R b S), targets_are)

    -- the header is written; there is room for the row starts
    module _ {w : List ℕ} (p : w ≡ placed 0 header out) where
      pub rows_room : length (take (32 + 4 * S - 28) (drop 28 w)) ≡ 4 * suc S
      rows_room = part_length 28 (32 + 4 * S) w (omega arith) (rw p (omega (arith, length-placed 0 header out (omega arith)))) ∙ omega arith

      pub rows_there : {r : List ℕ} → r ≡ rows → take 28 w ++ (r ++ drop (32 + 4 * S - 28) (drop 28 w)) ≡ placed 0 (header ++ rows) out
      rows_there e =
          rw e (part_on 28 (32 + 4 * S) header rows out p refl (omega (arith, length_little (listed (start_of_row R b) (suc S)), length-listed (start_of_row R b) (suc S))) (omega arith) (omega arith))

    -- then for the targets
    module _ {w : List ℕ} (p : w ≡ placed 0 (header ++ rows) out) where
      pub targets_room : length (take (32 + 4 * S + 4 * E - (32 + 4 * S)) (drop (32 + 4 * S) w)) ≡ 4 * start_of_row R b S
      targets_room =
          part_length (32 + 4 * S) (32 + 4 * S + 4 * E) w (omega arith) (rw p (omega (arith, length-placed 0 (header ++ rows) out (omega (arith, rows_length))))) ∙ omega (arith, targets_are)

      pub targets_there : {g : List ℕ} → g ≡ targets
          → take (32 + 4 * S) w ++ (g ++ drop (32 + 4 * S + 4 * E - (32 + 4 * S)) (drop (32 + 4 * S) w)) ≡ placed 0 (header ++ rows ++ targets) out
      targets_there e =
          rw e (part_on (32 + 4 * S) (32 + 4 * S + 4 * E) (header ++ rows) targets out p rows_length (omega (arith, length_little (targets_to R b S), targets_are)) (omega arith) (omega arith))

    -- then for the marks, and that is the file
    module _ {w : List ℕ} (p : w ≡ placed 0 (header ++ rows ++ targets) out) where
      pub marks_room : length (take (32 + 4 * S + 4 * E + S - (32 + 4 * S + 4 * E)) (drop (32 + 4 * S + 4 * E) w)) ≡ S
      marks_room =
          part_length (32 + 4 * S + 4 * E) (32 + 4 * S + 4 * E + S) w (omega arith) (rw p (omega (arith, length-placed 0 (header ++ rows ++ targets) out (omega (arith, targets_length)))))
          ∙ omega arith

      pub marks_there : {m : List ℕ} → m ≡ marks
          → take (32 + 4 * S + 4 * E) w ++ (m ++ drop (32 + 4 * S + 4 * E + S - (32 + 4 * S + 4 * E)) (drop (32 + 4 * S + 4 * E) w)) ≡ placed 0 (file_of R b) out
      unfolding file_of file_with
      marks_there e =
          let there =
          part_on (32 + 4 * S + 4 * E) (32 + 4 * S + 4 * E + S) (header ++ rows ++ targets) marks out p targets_length (omega (arith, length-listed (slot_mark R b) S)) (omega arith) room in
          rw e there
          ∙ ap (λ (E : ℕ). placed 0 (little_endian (header_of 2 S E 0) ++ rows ++ targets ++ marks) out) (sym targets_are)
          ∙ rw k.slots_are

    -- the header goes first
    pub header_there : {h : List ℕ} → h ≡ header → h ++ drop 28 out ≡ placed 0 header out
    unfolding placed
    header_there e = ap (λ (h : List ℕ). h ++ drop 28 out) e
