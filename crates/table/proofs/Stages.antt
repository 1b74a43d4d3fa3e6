-- Going down the refusal list by stages: lines 1, 2, 3, 14 and 15 (the counts), 4 and 5 (layout and row starts), 6 to 8 (targets, empty rows and
-- marks). For each stage: the line that is given, by the tests before it in that stage, and what is known where none is. A stage's answer is that of
-- the lines up to its end. Assumes nothing.
use Rattle.std.specs.Prelude.{◌≡◌, refl, true, false, List, ◌++◌, ℕ, ◌+◌, ◌≤◌, eqb, ltb, length, Option, None, Some, Result, Ok, Err}
use Rattle.std.proofs.Common.{sym, ap, ◌∙◌, arith}
use Rattle.table.specs.First.{first_in}
use Rattle.table.specs.Given.{first_given}
use Rattle.table.proofs.Given.{test_off, index_off, none_given, part_on, part_off, none_in_parts}
use Rattle.table.specs.Layout.{kind_of, states_of, edges_of, sets_of, table_of}
use Rattle.table.specs.Open.{outside, layout_fits, row_start_wrong, target_wrong, row_empty, mark_wrong, count_lines, row_lines, content_lines, answer_of, opened_by}
use Rattle.table.proofs.Facts.{facts}
use Rattle.table.specs.LaidOut.{FromTo, LaidOut}
use Rattle.table.proofs.LaidOut.{laid_by, inside, layout_right}
use Rattle.table.specs.Rows.{RowsRight}
use Rattle.table.proofs.Rows.{row_starts_right}
use Rattle.table.specs.declared.Table.{Table}
use Rattle.table.specs.declared.refusal.Refusal.{Refusal}
use Rattle.table.specs.declared.refusal.Refusal.TheVariants.{TooShort, WrongKind, WrongStates, WrongEdges, WrongSets, WrongLayout, WrongRowStart, WrongTarget, EmptyRow, WrongMark}

-- ---- a stage's answer

-- a line is given, or none is and the table is the one that the header counts
pub stage_refuses : (b : List ℕ) (ls : List (Option Refusal)) (r : Refusal) → first_given ls ≡ Some r → Err r ≡ opened_by b ls
unfolding opened_by
stage_refuses b ls r e = ap (answer_of b) (sym e)

pub stage_accepts : (b : List ℕ) (ls : List (Option Refusal)) (t : Table) → first_given ls ≡ None → t ≡ table_of b → Ok t ≡ opened_by b ls
unfolding opened_by
stage_accepts b ls t e q = ap Ok q ∙ ap (answer_of b) (sym e)

-- an answer that accepts is given where no line is, and one that refuses where that line is the first
pub accepts_says : (b : List ℕ) (ls : List (Option Refusal)) (t : Table) → opened_by b ls ≡ Ok t → (first_given ls ≡ None) × (t ≡ table_of b)
unfolding opened_by
accepts_says b ls t = go (first_given ls)
  where
    go : (o : Option Refusal) → answer_of b o ≡ Ok t → (o ≡ None) × (t ≡ table_of b)
    go None e = (refl, cc)
    go (Some r) e = absurd (let z : ◌≡◌ {A = ℕ} 0 1 = cc in omega arith)

pub refuses_says : (b : List ℕ) (ls : List (Option Refusal)) (r : Refusal) → opened_by b ls ≡ Err r → first_given ls ≡ Some r
unfolding opened_by
refuses_says b ls r = go (first_given ls)
  where
    go : (o : Option Refusal) → answer_of b o ≡ Err r → o ≡ Some r
    go None e = absurd (let z : ◌≡◌ {A = ℕ} 0 1 = cc in omega arith)
    go (Some x) e = cc

-- the next stage: what was refused stays refused, and after lines that are not given its own decide
pub stays_refused : (b : List ℕ) (xs ys : List (Option Refusal)) (x : Result Table Refusal) (r : Refusal) → x ≡ opened_by b xs → x ≡ Err r → x ≡ opened_by b (xs ++ ys)
stays_refused b xs ys x r p q = q ∙ stage_refuses b (xs ++ ys) r (part_on xs ys r (refuses_says b xs r (sym p ∙ q)))

pub next_refuses : (b : List ℕ) (xs ys : List (Option Refusal)) (r : Refusal) → first_given xs ≡ None → first_given ys ≡ Some r → Err r ≡ opened_by b (xs ++ ys)
next_refuses b xs ys r h e = stage_refuses b (xs ++ ys) r (part_off xs ys h ∙ e)

pub next_accepts : (b : List ℕ) (xs ys : List (Option Refusal)) (t : Table) → first_given xs ≡ None → first_given ys ≡ None → t ≡ table_of b → Ok t ≡ opened_by b (xs ++ ys)
next_accepts b xs ys t h e = stage_accepts b (xs ++ ys) t (part_off xs ys h ∙ e)

-- the same as a `?` has it: the refusal is handed on, and after a table that was accepted the stage's own lines decide
module _ (b : List ℕ) (xs ys : List (Option Refusal)) where
  pub handed_on : {r : Refusal} → Err r ≡ opened_by b xs → Err r ≡ opened_by b (xs ++ ys)
  handed_on {r} e = stays_refused b xs ys (Err r) r e refl

  pub then_refuses : {t : Table} {r : Refusal} → Ok t ≡ opened_by b xs → first_given ys ≡ Some r → Err r ≡ opened_by b (xs ++ ys)
  then_refuses {t} {r} a = next_refuses b xs ys r (accepts_says b xs t (sym a)).0

  pub then_accepts : {t : Table} → Ok t ≡ opened_by b xs → first_given ys ≡ None → Ok t ≡ opened_by b (xs ++ ys)
  then_accepts {t} a e = let (h, q) = accepts_says b xs t (sym a) in next_accepts b xs ys t h e q

module _ (b : List ℕ) where
  -- ---- lines 1, 2, 3, 14 and 15

  pub too_short : ltb (length b) 28 ≡ true → first_given (count_lines b) ≡ Some TooShort
  unfolding count_lines
  too_short e = simp e

  pub wrong_kind : ltb (length b) 28 ≡ false → eqb (kind_of b) 1 ≡ false → first_given (count_lines b) ≡ Some WrongKind
  unfolding count_lines
  wrong_kind l e = simp (l, e)

  pub wrong_states : ltb (length b) 28 ≡ false → eqb (kind_of b) 1 ≡ true → outside (states_of b) 1 64 ≡ true
      → first_given (count_lines b) ≡ Some WrongStates
  unfolding count_lines
  wrong_states l k e = simp (l, k, e)

  pub wrong_edges : ltb (length b) 28 ≡ false → eqb (kind_of b) 1 ≡ true → outside (states_of b) 1 64 ≡ false → outside (edges_of b) 1 1024 ≡ true
      → first_given (count_lines b) ≡ Some WrongEdges
  unfolding count_lines
  wrong_edges l k s e = simp (l, k, s, e)

  pub wrong_sets : ltb (length b) 28 ≡ false → eqb (kind_of b) 1 ≡ true → outside (states_of b) 1 64 ≡ false → outside (edges_of b) 1 1024 ≡ false
      → outside (sets_of b) 0 4 ≡ true → first_given (count_lines b) ≡ Some WrongSets
  unfolding count_lines
  wrong_sets l k s d e = simp (l, k, s, d, e)

  pub counts_off : ltb (length b) 28 ≡ false → eqb (kind_of b) 1 ≡ true → outside (states_of b) 1 64 ≡ false → outside (edges_of b) 1 1024 ≡ false
      → outside (sets_of b) 0 4 ≡ false → first_given (count_lines b) ≡ None
  unfolding count_lines
  counts_off l k s d e = simp (l, k, s, d, e)

  -- what they leave
  pub record Counted : Type 0 where
    pub long : 28 ≤ length b
    pub kind : kind_of b ≡ 1
    pub states : FromTo (states_of b) 1 64
    pub edges : FromTo (edges_of b) 1 1024
    pub sets : sets_of b ≤ 4

  pub counted : first_given (count_lines b) ≡ None → Counted
  unfolding count_lines
  counted = simp (none_given, test_off, facts, inside)
      (λ (long, (kind, (states, (edges, (sets, rest))))). record { long = long; kind = kind; states = states; edges = edges; sets = sets.1 })

  -- ---- lines 4 and 5

  pub wrong_layout : layout_fits b ≡ false → first_given (row_lines b) ≡ Some WrongLayout
  unfolding row_lines
  wrong_layout e = simp e

  pub wrong_row_start : layout_fits b ≡ true → (i : ℕ) → first_in 0 (states_of b + 1) (row_start_wrong b) ≡ Some i
      → first_given (row_lines b) ≡ Some (WrongRowStart i)
  unfolding row_lines
  wrong_row_start l i e = simp (l, e)

  pub rows_off : layout_fits b ≡ true → first_in 0 (states_of b + 1) (row_start_wrong b) ≡ None → first_given (row_lines b) ≡ None
  unfolding row_lines
  rows_off l e = simp (l, e)

  -- what the counts and the layout leave
  pub laid_out : Counted → layout_fits b ≡ true → (t : Table) → t ≡ table_of b → LaidOut b t
  laid_out c l t e = laid_by b t e c.states c.edges c.sets ((layout_right b).0 l).1

  -- what they leave
  pub rows_leave : first_given (row_lines b) ≡ None → (layout_fits b ≡ true) × RowsRight b
  unfolding row_lines
  rows_leave = simp (none_given, test_off, index_off, facts, row_starts_right) (λ (layout, (rows, rest)). (layout, rows))

  -- what a table that was accepted after them has
  pub laid_out_rows : {t : Table} → Ok t ≡ opened_by b (count_lines b ++ row_lines b) → LaidOut b t × RowsRight b
  laid_out_rows {t} a =
      let (h, q) = accepts_says b (count_lines b ++ row_lines b) t (sym a) in
      let (counts, rows) = none_in_parts (count_lines b) (row_lines b) h in
      let (layout, right) = rows_leave rows in
      (laid_out (counted counts) layout t q, right)

  -- ---- lines 6 to 8

  pub wrong_target : (i : ℕ) → first_in 0 (edges_of b) (target_wrong b) ≡ Some i → first_given (content_lines b) ≡ Some (WrongTarget i)
  unfolding content_lines
  wrong_target i e = simp e

  pub empty_row : first_in 0 (edges_of b) (target_wrong b) ≡ None → (s : ℕ) → first_in 0 (states_of b) (row_empty b) ≡ Some s
      → first_given (content_lines b) ≡ Some (EmptyRow s)
  unfolding content_lines
  empty_row t s e = simp (t, e)

  pub wrong_mark : first_in 0 (edges_of b) (target_wrong b) ≡ None → first_in 0 (states_of b) (row_empty b) ≡ None
      → (s : ℕ) → first_in 0 (states_of b) (mark_wrong b) ≡ Some s → first_given (content_lines b) ≡ Some (WrongMark s)
  unfolding content_lines
  wrong_mark t r s e = simp (t, r, e)

  pub content_off : first_in 0 (edges_of b) (target_wrong b) ≡ None → first_in 0 (states_of b) (row_empty b) ≡ None
      → first_in 0 (states_of b) (mark_wrong b) ≡ None → first_given (content_lines b) ≡ None
  unfolding content_lines
  content_off t r m = simp (t, r, m)
