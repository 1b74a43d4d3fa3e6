-- S is n(n+1) for each flag and bits.
use Rattle.std.proofs.Common.{rules}
use Rattle.recorder.specs.Slots.{slot_count}
use Rattle.recorder.proofs.slot_count.Goals as goal

pub returns : goal.returns
unfolding slot_count
returns c = search rules
