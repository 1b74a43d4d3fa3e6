-- When slot p comes, where p is the counter, its record is there and the rows of the slots before it are written (`Targeting`).
use Rattle.std.proofs.Common.{arith}
use Rattle.recorder.specs.Flag.{live_flag}
use Rattle.translation.proofs.Asks.{record_range, row_is, next_is}
use Rattle.translation.proofs.Writing.{targeting_begins, targeting_room, targeting_on, targeting_ends}
use Rattle.translation.proofs.targets.write_targets.Goals as goal

pub loop-init : goal.loop-init
loop-init c = record { here = c.of_slot-r.ensures; written = targeting_begins live_flag c.args.bytes.now c.args.part.now c.args.slots c.requires.part_len }

pub write_row-at-requires-clause-r_in : goal.write_row-at-requires-clause-r_in
write_row-at-requires-clause-r_in c = (record_range c.requires.asks c.requires.slots_are (omega arith, c.loop.invariant.here)).2

pub write_row-at-requires-clause-room : goal.write_row-at-requires-clause-room
write_row-at-requires-clause-room c =
    rw (row_is c.requires.asks c.requires.slots_are (omega arith, c.loop.invariant.here) live_flag) (targeting_room c.loop.invariant.written (omega arith))

pub following-r-requires : goal.following-r-requires
following-r-requires c = record_range c.requires.asks c.requires.slots_are (omega arith, c.loop.invariant.here)

pub loop-preserved : goal.loop-preserved
loop-preserved c =
    let row = row_is c.requires.asks c.requires.slots_are (omega arith, c.loop.invariant.here) live_flag in
    record {
      here = next_is c.requires.asks c.requires.slots_are (omega arith, c.loop.invariant.here) c.following-r.ensures;
      written = targeting_on c.loop.invariant.written (omega arith) (rw row at c.write_row-at.ensures.value) (rw row at c.write_row-at.ensures.part_after);
    }

pub returns : goal.returns
returns c = targeting_ends c.loop.invariant.written (omega arith)
