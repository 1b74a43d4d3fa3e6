-- What was written is the translated table; a refusal left the output as it was, and its line stands in it.
use Rattle.lines.proofs.Laws.{puts_written, puts_not_written}
use Rattle.lines.proofs.translate.Goals as goal

pub returns-in-Ok : goal.returns-in-Ok
returns-in-Ok c = puts_written _ _ _ _ _ c.in-Ok.is c.translate.ensures

pub returns-in-Err : goal.returns-in-Err
returns-in-Err c = puts_not_written _ _ _ _ _ _ _ c.in-Err.is c.translate.ensures c.refused_line.ensures.puts
