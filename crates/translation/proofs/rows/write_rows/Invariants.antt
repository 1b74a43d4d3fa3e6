-- What the loop keeps when slot p comes: r is its record, the row starts of the slots before it are written, and its own row starts at sum.
use Rattle.recorder.specs.Flag.{live_flag}
use Rattle.translation.proofs.Asks.{Carries}
use Rattle.translation.proofs.Writing.{Starting}
use Rattle.translation.proofs.rows.write_rows.Given as goal

abbrev pub invariant-loop-p : goal.invariant-loop-p
invariant-loop-p l = Carries l.t l.p l.r (Starting live_flag l.bytes l.initial.part l.slots l.part l.sum l.p)
