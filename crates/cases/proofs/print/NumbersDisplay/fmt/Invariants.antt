-- What the loop keeps: the numbers so far are written.
use Rattle.std.proofs.Common.{Ok, take}
use Rattle.std.specs.Fmt.{DisplaysOnOk}
use Rattle.cases.specs.Printed.{spaced}
use Rattle.cases.proofs.print.NumbersDisplay.fmt.Given as goal

abbrev pub invariant-loop-x : goal.invariant-loop-x
invariant-loop-x g l = DisplaysOnOk g.W.Write.write_str_gives l.initial.f (Ok tt) (spaced g.T.Display.output (take l.x-index l.x-items)) l.f
