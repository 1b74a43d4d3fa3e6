-- The text so far is written, and then a space and the number's own text (proofs/Texts.antt).
use Rattle.std.proofs.Common.{Ok, refl}
use Rattle.cases.proofs.Texts.{spaced_more, written_more}
use Rattle.cases.proofs.print.NumbersDisplay.fmt.Goals as goal

pub loop-x-preserved : goal.loop-x-preserved
loop-x-preserved g c =
    rw (spaced_more g.T.Display.output c.args.self.now.0.now c.loop-x.x-index c.x-item.result c.loop-x-test.true c.x-item.is)
    (written_more _ _ _ _ _ _ (Ok _) refl c.loop-x.invariant c.in_ok-write.ensures.writes)
