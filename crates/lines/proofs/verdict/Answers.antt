-- The table is searched and quoted, and the lines are those of both answers.
use Rattle.lines.proofs.Puts.{adds_on}
use Rattle.lines.proofs.Laws.{puts_table_refused, puts_verdict}
use Rattle.lines.proofs.verdict.Goals as goal
use Rattle.lines.proofs.verdict.Goals.{in-Ok, in-Err}

pub returns : goal.returns
returns c = elim c.match-quote.branch [
  | in-Ok w ↦ rw w.page-is (_, c.search-answer.ensures, puts_verdict _ _ _ _ w.in-Ok.ensures (adds_on w.sheet_lines.ensures.adds w.answer_lines.ensures).puts)
  | in-Err w ↦ rw w.page-is (_, c.search-answer.ensures, puts_table_refused _ _ _ _ w.in-Err.ensures w.refused_line.ensures.puts)
]
