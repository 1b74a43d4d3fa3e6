-- What the loop keeps when slot p comes: r is its record, and the marks of the slots before it are written.
use Rattle.recorder.specs.Flag.{live_flag}
use Rattle.table.specs.Recording.{slots_of}
use Rattle.translation.proofs.Asks.{Carries}
use Rattle.translation.proofs.Writing.{Marking}
use Rattle.translation.proofs.marks.write_marks.Given as goal

abbrev pub invariant-loop-p : goal.invariant-loop-p
invariant-loop-p l = Carries l.t l.p l.r (Marking live_flag l.bytes l.initial.part (slots_of l.bytes) l.part l.p)
