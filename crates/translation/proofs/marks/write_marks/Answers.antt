-- When slot p comes, its record is there and the marks of the slots before it are written (`Marking`).
use Rattle.std.proofs.Common.{refl, sym, arith}
use Rattle.recorder.specs.Flag.{live_flag}
use Rattle.table.specs.Recording.{slots_of}
use Rattle.translation.proofs.Asks.{record_range, slot_is, next_is}
use Rattle.translation.proofs.Writing.{marking_begins, marking_on, marking_ends}
use Rattle.translation.proofs.marks.write_marks.Goals as goal

pub loop-p-init : goal.loop-p-init
loop-p-init c = record { here = c.of_slot-r.ensures; written = marking_begins live_flag c.args.bytes.now c.args.part.now (slots_of c.args.bytes.now) c.requires.part_len }

pub mark-requires-clause-r_in : goal.mark-requires-clause-r_in
mark-requires-clause-r_in c = (record_range c.requires.asks refl (omega arith, c.loop-p.invariant.here)).2

pub mark-requires-clause-p_is : goal.mark-requires-clause-p_is
mark-requires-clause-p_is c = sym (slot_is c.requires.asks refl (omega arith, c.loop-p.invariant.here))

pub following-r-requires : goal.following-r-requires
following-r-requires c = record_range c.requires.asks refl (omega arith, c.loop-p.invariant.here)

pub loop-p-preserved : goal.loop-p-preserved
loop-p-preserved c = record {
  here = next_is c.requires.asks refl (omega arith, c.loop-p.invariant.here) c.following-r.ensures;
  written = marking_on c.loop-p.invariant.written (omega arith) c.mark.ensures;
}

pub returns : goal.returns
returns c = marking_ends c.loop-p.invariant.written (omega arith)
