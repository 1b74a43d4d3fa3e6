-- What the loop keeps when target i comes: what the slot leads to along the targets before it is written, and end is the index after that.
use Rattle.recorder.specs.Flag.{live_flag}
use Rattle.recorder.specs.Slots.{slot_of}
use Rattle.translation.proofs.Writing.{Rowing}
use Rattle.translation.proofs.targets.write_row.Given as goal

abbrev pub invariant-loop-i : goal.invariant-loop-i
invariant-loop-i l = Rowing live_flag l.bytes l.initial.part (slot_of l.t.states l.t.sets l.r) l.at l.part l.i l.end
