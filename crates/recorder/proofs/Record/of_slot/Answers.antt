-- It divides as the definition does, since 1 shifted by m is 2^m.
use Rattle.std.proofs.Common.{arith}
use Rattle.recorder.specs.Slots.{record_of_slot}
use Rattle.recorder.proofs.Fits.{one_shl}
use Rattle.recorder.proofs.Record.of_slot.Goals as goal

pub returns : goal.returns
unfolding record_of_slot
returns c = rw (one_shl c.args.m (omega arith))
