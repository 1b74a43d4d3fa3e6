-- What the loop keeps while `left` words are still to be written.
use Rattle.search.proofs.Writing.{Writing}
use Rattle.search.proofs.queue.Queue.write_path.Given as goal

abbrev pub invariant-loop-left : goal.invariant-loop-left
invariant-loop-left l = Writing l.self.work.now l.initial.report l.self.slots l.n l.m l.head l.len l.i l.report l.left l.unsaved
