-- Laws of specs/WellFormed.antt. Assumes nothing.
use Rattle.std.specs.Prelude.{Err, ◌≡◌, refl, ◌↔◌, List, ℕ, suc, ◌+◌, ◌≤◌, ◌<◌, None, Result, Ok}
use Rattle.std.proofs.Common.{sym, ap, ◌∙◌, zero-le}
use Rattle.order.proofs.Settled.{settled}
use Rattle.recorder.specs.Block.{HasBit}
use Rattle.table.specs.First.{first_in}
use Rattle.table.proofs.First.{first_none}
use Rattle.table.specs.Given.{first_given}
use Rattle.table.proofs.Given.{none_given, test_off, index_off}
use Rattle.table.specs.Layout.{states_of, sets_of, table_of, row_start, mark}
use Rattle.table.specs.Open.{row_empty, mark_wrong, count_lines, row_lines, content_lines, lines_of, open_of, why_of}
use Rattle.table.proofs.Bits.{low_bits}
use Rattle.table.proofs.Facts.{facts}
use Rattle.table.specs.LaidOut.{LaidOut}
use Rattle.table.proofs.LaidOut.{laid_by, inside, layout_right}
use Rattle.table.proofs.Rows.{row_starts_right}
use Rattle.table.proofs.Targets.{targets_right}
use Rattle.table.proofs.Stages.{stage_accepts, accepts_says}
use Rattle.table.specs.declared.Table.{Table}
use Rattle.table.specs.declared.refusal.Refusal.{Refusal}
use Rattle.table.specs.WellFormed.{WellFormed}

-- ---- lines 7 and 8

rows_not_empty : (b : List ℕ) → (first_in 0 (states_of b) (row_empty b) ≡ None) ↔ ((s : ℕ) → s < states_of b → ¬ (row_start b s ≡ row_start b (suc s)))
unfolding row_empty
rows_not_empty b = simp (first_none, facts) (λ h s l. h s zero-le l, λ h s z l. h s l)

marks_right : (b : List ℕ)
    → (first_in 0 (states_of b) (mark_wrong b) ≡ None) ↔ ((s : ℕ) → s < states_of b → (i : ℕ) → 2 + sets_of b ≤ i → ¬ HasBit (mark b s) i)
unfolding mark_wrong
marks_right b = simp (first_none, facts, low_bits) (λ h s l. h s zero-le l, λ h s z l. h s l)

-- ---- the list

-- no line is given where the table is well-formed: the parts of the header are named, the others found by their statements, but for the targets
lines_off : (b : List ℕ) → (first_given (lines_of b) ≡ None) ↔ WellFormed b
unfolding lines_of count_lines row_lines content_lines
lines_off b =
    simp (none_given, test_off, index_off, facts, inside, layout_right, row_starts_right, rows_not_empty, marks_right) (
      λ (header, (kind, (states, (edges, (sets, (layout, (rows, (targets, rest)))))))).
          let (targets_in, targets_rise) = (targets_right b rows).0 targets in search targets_in,
      λ w. (
        w.header,
        (
          w.kind,
          (
            (w.states_from, w.states_to),
            (
              (w.edges_from, w.edges_to),
              (
                (zero-le, w.sets_to),
                search ((targets_right b w.rows).1 (w.targets_in, w.targets_rise)),
              ),
            ),
          ),
        ),
      ),
    )

pub accepted : (b : List ℕ) → (open_of b ≡ Ok (table_of b)) ↔ WellFormed b
unfolding open_of
accepted b = (λ e. (lines_off b).0 (accepts_says b (lines_of b) (table_of b) e).0, λ w. sym (stage_accepts b (lines_of b) (table_of b) ((lines_off b).1 w) refl))

-- an accepted table is the one that the header counts
pub accepted_table : (b : List ℕ) (t : Table) → open_of b ≡ Ok t → t ≡ table_of b
unfolding open_of
accepted_table b t e = (accepts_says b (lines_of b) t e).1

-- so whatever is accepted is well-formed
pub well_formed : (b : List ℕ) (t : Table) → open_of b ≡ Ok t → WellFormed b
well_formed b t e = (accepted b).0 (e ∙ ap Ok (accepted_table b t e))

-- and laid out by its counts
pub laid : (b : List ℕ) (t : Table) → open_of b ≡ Ok t → LaidOut b t
laid b t e =
    let w = well_formed b t e in
    laid_by b t (accepted_table b t e) (w.states_from, w.states_to) (w.edges_from, w.edges_to) w.sets_to w.size

-- what `open` says settles its answer
pub open_settled : (b : List ℕ) (x y : Result Table Refusal) → x ≡ open_of b → y ≡ open_of b → x ≡ y
open_settled b x y p q = settled p q

-- an answer of opening that is a refusal, of which `why` gave r, is the refusal r
pub why_is : (x : Result Table Refusal) (r r' : Refusal) → x ≡ Err r' → r ≡ why_of x → x ≡ Err r
why_is x r r' q e = cc

-- so an entry that could not take the table hands on opening's refusal
pub refused_why : (b : List ℕ) (x : Result Table Refusal) (r r' : Refusal) → x ≡ open_of b → x ≡ Err r' → r ≡ why_of x → open_of b ≡ Err r
refused_why b x r r' p q e = sym p ∙ why_is x r r' q e

-- and one that took it has this
pub record Opened (b : List ℕ) (t : Table) : Type 0 where
  pub accepted : open_of b ≡ Ok t
  pub formed : WellFormed b
  pub laid : LaidOut b t

pub opened : (b : List ℕ) (x : Result Table Refusal) (t : Table) → x ≡ open_of b → x ≡ Ok t → Opened b t
opened b x t p q = let e : open_of b ≡ Ok t = sym p ∙ q in record { accepted = e; formed = well_formed b t e; laid = laid b t e }
