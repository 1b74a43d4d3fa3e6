-- What the loop keeps when slot p comes, where p is the counter: r is its record, the rows of the slots before it are written, and at is the index
-- after them.
use Rattle.recorder.specs.Flag.{live_flag}
use Rattle.translation.proofs.Asks.{Carries}
use Rattle.translation.proofs.Writing.{Targeting}
use Rattle.translation.proofs.targets.write_targets.Given as goal

abbrev pub invariant-loop : goal.invariant-loop
invariant-loop l = Carries l.t l.counter l.r (Targeting live_flag l.bytes l.initial.part l.slots l.part l.at l.counter)
