-- The letter of the row, or `none`.
use Rattle.lines.proofs.Puts.{adds_on, adds_by}
use Rattle.lines.proofs.Laws.{puts_letter, puts_no_board}
use Rattle.lines.proofs.lines.board_line.Goals as goal

pub returns-in-Some-clause-adds : goal.returns-in-Some-clause-adds
returns-in-Some-clause-adds c = adds_by (puts_letter _ _ c.in-Some.is) (adds_on c.text.ensures c.text-in-Some.ensures)

pub returns-in-None-clause-adds : goal.returns-in-None-clause-adds
returns-in-None-clause-adds c = adds_by (puts_no_board _ c.in-None.is) (adds_on c.text.ensures c.text-in-None.ensures)
