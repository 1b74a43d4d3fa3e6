-- It scans the targets row by row, and carries where the row of s starts.
use mathlib.Core.Path.{◌≡◌, sym, ap, ◌∙◌}
use Prim.Native.Nat.{suc}
use native.Mathlib.Numerals.{add-one}
use native.Mathlib.Omega.{arith}
use lib.Dec.{eqb}
use Rattle.table.specs.Layout.{states_of, row_start}
use Rattle.table.proofs.Rows.{row_starts_to}
use Rattle.table.proofs.Targets.{first_opens}
use Rattle.table.proofs.Scan.{scan_begins}
use Rattle.table.proofs.Scan.{scan_ends, part_finds, part_ends}
use Rattle.opening.proofs.faults.wrong_target.Goals as goal

pub loop-s-init : goal.loop-s-init
loop-s-init c = record { to = omega arith; from_is = sym c.requires.rows_right.first_row; scanned = scan_begins (omega arith) }

pub wrong_in_row-requires : goal.wrong_in_row-requires
wrong_in_row-requires c =
    let e : c.row_start-to.result ≡ row_start c.args.bytes.now (suc c.loop-s.s) = c.row_start-to.ensures ∙ ap (row_start c.args.bytes.now) (add-one c.loop-s.s) in
    record {
      laid_out = c.requires.laid_out;
      from_le_to = (omega (arith, c.requires.rows_right.rows_rise c.loop-s.s (omega arith), c.loop-s.invariant.from_is), omega (arith, row_starts_to c.args.bytes.now c.requires.rows_right (suc c.loop-s.s) (omega arith)));
      by_index = λ i f g. first_opens c.args.bytes.now c.requires.rows_right c.loop-s.s i (omega arith) (omega (arith, c.loop-s.invariant.from_is)) (omega arith) ∙ ap (eqb i) (sym c.loop-s.invariant.from_is);
    }

pub returns-in-Some : goal.returns-in-Some
returns-in-Some c =
    let e : c.row_start-to.result ≡ row_start c.args.bytes.now (suc c.loop-s.s) = c.row_start-to.ensures ∙ ap (row_start c.args.bytes.now) (add-one c.loop-s.s) in
    part_finds c.loop-s.invariant.scanned (omega (arith, row_starts_to c.args.bytes.now c.requires.rows_right (suc c.loop-s.s) (omega arith)))
    (sym c.in-Some.is ∙ c.wrong_in_row.ensures)

pub loop-s-preserved : goal.loop-s-preserved
loop-s-preserved c =
    let e : c.row_start-to.result ≡ row_start c.args.bytes.now (suc c.loop-s.s) = c.row_start-to.ensures ∙ ap (row_start c.args.bytes.now) (add-one c.loop-s.s) in
    record {
      to = omega arith;
      from_is = c.row_start-to.ensures;
      scanned = part_ends c.loop-s.invariant.scanned (omega (arith, c.requires.rows_right.rows_rise c.loop-s.s (omega arith), c.loop-s.invariant.from_is))
          (omega (arith, row_starts_to c.args.bytes.now c.requires.rows_right (suc c.loop-s.s) (omega arith))) (sym c.in_default.is ∙ c.wrong_in_row.ensures);
    }

pub returns : goal.returns
returns c =
    let d : c.loop-s.s ≡ states_of c.args.bytes.now = omega arith in
    scan_ends c.loop-s.invariant.scanned (omega (arith, c.requires.rows_right.last_row, ap (row_start c.args.bytes.now) d))
