-- What the lines of the counts refuse stays refused, and after them the code goes down lines 4 and 5.
use Rattle.std.proofs.Common.{sym, ap, ◌∙◌, arith}
use Rattle.std.proofs.lemmas.Result.{err_from_is_err_and}
use Rattle.table.specs.Open.{count_lines}
use Rattle.table.proofs.Stages.{Counted, counted, accepts_says, handed_on, then_refuses, then_accepts, wrong_layout, wrong_row_start, rows_off, laid_out}
use Rattle.table.specs.declared.Table.{Table}
use Rattle.opening.proofs.laid_out.Goals as goal

pub returns-in_err-t : goal.returns-in_err-t
returns-in_err-t c = let p = err_from_is_err_and c.from_residual.result c.from_residual.ensures.1 in rw (p.1, p.2) (handed_on _ _ _ c.in_err-t.ensures)

pub layout_fits-requires : goal.layout_fits-requires
layout_fits-requires c =
    let (h, e) = accepts_says c.args.bytes.now (count_lines c.args.bytes.now) _ (sym c.in_ok-t.ensures) in
    let d : Counted c.args.bytes.now = counted c.args.bytes.now h in
    let s = ap (λ (t : Table). t.states) e in
    let n = ap (λ (t : Table). t.edges) e in
    record { in_bounds = d.long; states_value = (s, n); states_bound = (omega (arith, d.states), omega (arith, d.edges)) }

pub returns-then-not-layout_fits : goal.returns-then-not-layout_fits
returns-then-not-layout_fits c = then_refuses _ _ _ c.in_ok-t.ensures (wrong_layout _ (sym c.layout_fits.ensures ∙ c.if-not-layout_fits.true))

pub wrong_row_start-requires : goal.wrong_row_start-requires
wrong_row_start-requires c =
    let (h, e) = accepts_says c.args.bytes.now (count_lines c.args.bytes.now) _ (sym c.in_ok-t.ensures) in
    laid_out c.args.bytes.now (counted c.args.bytes.now h) (sym c.layout_fits.ensures ∙ c.if-not-layout_fits.false) _ e

pub returns-in-Some : goal.returns-in-Some
returns-in-Some c = then_refuses _ _ _ c.in_ok-t.ensures (wrong_row_start _ (sym c.layout_fits.ensures ∙ c.if-not-layout_fits.false) _ (sym (sym c.in-Some.is ∙ c.wrong_row_start.ensures)))

pub returns : goal.returns
returns c = then_accepts _ _ _ c.in_ok-t.ensures (rows_off _ (sym c.layout_fits.ensures ∙ c.if-not-layout_fits.false) (sym (sym c.in_default.is ∙ c.wrong_row_start.ensures)))
