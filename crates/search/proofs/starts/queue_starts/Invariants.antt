-- What the loop keeps.
use Rattle.search.specs.Meet.{SameQueue}
use Rattle.search.proofs.StartsLaws.{Queueing}
use Rattle.search.proofs.starts.queue_starts.Given as goal

abbrev pub invariant-loop-s : goal.invariant-loop-s
invariant-loop-s l = record {
  queueing : Queueing l.bytes l.initial.queue.work.now l.queue.work.now l.queue.tail l.s;
  same : SameQueue l.initial.queue l.queue;
}
