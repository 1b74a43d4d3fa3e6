-- A lasso and its run, or `holds`.
use Rattle.std.proofs.Common.{◌∙◌, ap, Ok}
use Rattle.lines.proofs.Puts.{adds_on, adds_by}
use Rattle.lines.proofs.Laws.{puts_lasso, puts_holds}
use Rattle.lines.proofs.lines.answer_lines.Goals as goal

pub returns-in-Ok-Some : goal.returns-in-Ok-Some
returns-in-Ok-Some c =
    let found = rw c.in-Ok-Some.is at c.in-Ok-Some.field-0-is in
    adds_by (puts_lasso _ _ _ (c.in-Ok-Some.is ∙ ap Ok found)) (adds_on c.line.ensures.adds c.line-in-Ok-Some.ensures.adds)

pub returns-in-Ok-None : goal.returns-in-Ok-None
returns-in-Ok-None c =
    let found = rw c.in-Ok-None.is at c.in-Ok-None.field-0-is in
    adds_by (puts_holds _ _ (c.in-Ok-None.is ∙ ap Ok found)) c.text.ensures
