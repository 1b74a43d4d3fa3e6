-- The laws of proofs/StartsLaws.antt say what meeting the slot of state s asks and gives.
use Rattle.std.proofs.Common.{rules}
use Rattle.search.proofs.MeetLaws.{queue_trans}
use Rattle.search.proofs.StartsLaws.{queueing_begins, queueing_passes, queueing_on, queueing_ends, record_fits, slot_fits}
use Rattle.search.proofs.starts.queue_starts.Goals as goal
use Rattle.search.proofs.starts.queue_starts.Goals.{then-start, else-start}

pub loop-s-init : goal.loop-s-init
loop-s-init c = record { queueing = queueing_begins c.requires; same = search rules }

pub slot-x-requires : goal.slot-x-requires
slot-x-requires c = record_fits c.requires c.loop-s.invariant.queueing c.loop-s-test.true c.start.ensures

pub meet-requires : goal.meet-requires
meet-requires c = rw c.loop-s.invariant.same.slots (slot_fits c.requires c.loop-s.invariant.queueing c.loop-s-test.true c.start.ensures c.slot-x.ensures)

pub loop-s-preserved : goal.loop-s-preserved
loop-s-preserved c = elim c.if-start.branch [
  | else-start w ↦ rw w.queue-is (record { queueing = queueing_passes c.requires c.loop-s.invariant.queueing c.loop-s-test.true c.is_start-start.ensures w.if-start.false; same = c.loop-s.invariant.same })
  | then-start w ↦
      let says = rw c.loop-s.invariant.same.slots at w.meet.ensures.says in
      rw w.queue-is (record {
        queueing = queueing_on c.requires c.loop-s.invariant.queueing c.loop-s-test.true w.start.ensures w.slot-x.ensures c.is_start-start.ensures w.if-start.true says;
        same = queue_trans c.loop-s.invariant.same w.meet.ensures.same;
      })
]

pub returns-clause-says : goal.returns-clause-says
returns-clause-says c = queueing_ends c.requires c.loop-s.invariant.queueing c.loop-s-test.false c.loop-s.auto.s-end
