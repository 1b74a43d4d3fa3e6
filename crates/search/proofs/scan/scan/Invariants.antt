-- What the two loops keep.
use Rattle.std.proofs.Common.{◌-◌}
use Rattle.recorder.specs.Flag.{live_flag}
use Rattle.search.specs.Meet.{SameQueue}
use Rattle.search.proofs.Scanning.{Waiting, Within}
use Rattle.search.proofs.scan.scan.Given as goal

abbrev pub invariant-loop-i : goal.invariant-loop-i
invariant-loop-i l = record {
  row : Within live_flag l.bytes l.t l.queue.slots l.initial.queue.work.now l.queue.work.now l.head l.queue.tail l.x l.r l.goal l.fair l.to l.i;
  same : SameQueue l.initial.queue l.queue;
}

abbrev pub invariant-loop-head : goal.invariant-loop-head
invariant-loop-head l = record {
  waiting : Waiting live_flag l.bytes l.queue.slots l.initial.queue.work.now l.queue.work.now l.head l.queue.tail;
  same : SameQueue l.initial.queue l.queue;
}

abbrev pub decreases-loop-head : goal.decreases-loop-head
decreases-loop-head l = l.queue.slots - l.head
