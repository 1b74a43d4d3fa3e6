-- What the lines before refuse stays refused, and after them the code goes down lines 6 to 8.
use Rattle.std.proofs.Common.{sym, ◌∙◌}
use Rattle.std.proofs.lemmas.Result.{err_from_is_err_and}
use Rattle.table.specs.Open.{open_of, lines_of}
use Rattle.table.proofs.Stages.{laid_out_rows, handed_on, then_refuses, then_accepts, wrong_target, empty_row, wrong_mark, content_off}
use Rattle.opening.proofs.open.Goals as goal

pub returns-in_err-t : goal.returns-in_err-t
unfolding open_of lines_of
returns-in_err-t c = let p = err_from_is_err_and c.from_residual.result c.from_residual.ensures.1 in rw (p.1, p.2) (handed_on _ _ _ c.in_err-t.ensures)

pub wrong_target-requires : goal.wrong_target-requires
wrong_target-requires c = let (laid, rows) = laid_out_rows _ c.in_ok-t.ensures in record { laid_out = laid; rows_right = rows }

pub empty_row-requires : goal.empty_row-requires
empty_row-requires c = (laid_out_rows _ c.in_ok-t.ensures).0

pub wrong_mark-requires : goal.wrong_mark-requires
wrong_mark-requires c = (laid_out_rows _ c.in_ok-t.ensures).0

pub returns-in-Some : goal.returns-in-Some
unfolding open_of lines_of
returns-in-Some c = then_refuses _ _ _ c.in_ok-t.ensures (wrong_target _ _ (sym (sym c.in-Some.is ∙ c.wrong_target.ensures)))

pub returns-in-Some-empty_row : goal.returns-in-Some-empty_row
unfolding open_of lines_of
returns-in-Some-empty_row c =
    then_refuses _ _ _ c.in_ok-t.ensures (empty_row _ (sym (sym c.in_default.is ∙ c.wrong_target.ensures)) _ (sym (sym c.in-Some-empty_row.is ∙ c.empty_row.ensures)))

pub returns-in-Some-wrong_mark : goal.returns-in-Some-wrong_mark
unfolding open_of lines_of
returns-in-Some-wrong_mark c =
    then_refuses _ _ _ c.in_ok-t.ensures (wrong_mark _ (sym (sym c.in_default.is ∙ c.wrong_target.ensures)) (sym (sym c.in_default-empty_row.is ∙ c.empty_row.ensures))
    _ (sym (sym c.in-Some-wrong_mark.is ∙ c.wrong_mark.ensures)))

pub returns : goal.returns
unfolding open_of lines_of
returns c =
    then_accepts _ _ _ c.in_ok-t.ensures (content_off _ (sym (sym c.in_default.is ∙ c.wrong_target.ensures)) (sym (sym c.in_default-empty_row.is ∙ c.empty_row.ensures))
    (sym (sym c.in_default-wrong_mark.is ∙ c.wrong_mark.ensures)))
