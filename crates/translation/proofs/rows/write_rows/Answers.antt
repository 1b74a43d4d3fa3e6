-- When slot p comes, its record is there, the row starts before it are written, and sum is where its own row starts (`Starting`).
use Rattle.std.proofs.Common.{◌+◌, ◌∙◌, ap, length, arith}
use Rattle.recorder.specs.Flag.{live_flag}
use Rattle.translation.proofs.Asks.{record_range, row_is, next_is, starts_small}
use Rattle.translation.proofs.Writing.{Starting, starting_begins, starting_on, starting_ends}
use Rattle.translation.proofs.rows.write_rows.Goals as goal
use Rattle.translation.proofs.rows.write_rows.Goals.{After-row_length-sum}

-- what holds once the row of slot p is counted
counted : (c : After-row_length-sum) → Starting live_flag c.args.bytes.now c.args.part.now c.args.slots c.put.new.part (c.loop-p.sum + c.row_length-sum.result) (c.loop-p.p + 1)
counted c =
    let row = row_is c.requires.asks c.requires.slots_are (omega arith, c.loop-p.invariant.here) live_flag in
    starting_on c.loop-p.invariant.written c.put.ensures (omega arith) (c.row_length-sum.ensures ∙ ap length row)

pub loop-p-init : goal.loop-p-init
loop-p-init c = record { here = c.of_slot-r.ensures; written = starting_begins live_flag c.args.bytes.now c.args.part.now c.args.slots c.requires.part_len }

pub row_length-sum-requires-clause-r_in : goal.row_length-sum-requires-clause-r_in
row_length-sum-requires-clause-r_in c = (record_range c.requires.asks c.requires.slots_are (omega arith, c.loop-p.invariant.here)).2

pub overflow_add-sum : goal.overflow_add-sum
overflow_add-sum c =
    let v = counted (goal.at.overflow_add-sum c).After-row_length-sum in
    omega (arith, v.sum_is, starts_small live_flag c.requires.asks c.requires.slots_are v.to)

pub following-r-requires : goal.following-r-requires
following-r-requires c = record_range c.requires.asks c.requires.slots_are (omega arith, c.loop-p.invariant.here)

pub loop-p-preserved : goal.loop-p-preserved
loop-p-preserved c = record {
  here = next_is c.requires.asks c.requires.slots_are (omega arith, c.loop-p.invariant.here) c.following-r.ensures;
  written = counted (goal.at.loop-p-preserved c).After-row_length-sum;
}

pub returns : goal.returns
returns c = starting_ends c.loop-p.invariant.written c.put-2.ensures (omega arith)
