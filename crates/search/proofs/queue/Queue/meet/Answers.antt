-- A slot that was not met leaves room in the queue, so both stores stand in the workspace.
use Rattle.std.proofs.Common.{arith, length-set}
use Rattle.search.proofs.MeetLaws.{room_to_meet}
use Rattle.search.proofs.queue.Queue.meet.Goals as goal

pub overflow_add-self : goal.overflow_add-self
overflow_add-self c = omega (arith, room_to_meet c.requires c.if-self-x-ne0.false)

pub offset_bounds-self-self : goal.offset_bounds-self-self
offset_bounds-self-self c = omega (arith, room_to_meet c.requires c.if-self-x-ne0.false)

pub bounds-self-self : goal.bounds-self-self
bounds-self-self c = simp length-set (omega (arith, room_to_meet c.requires c.if-self-x-ne0.false))

pub overflow_add-self-2 : goal.overflow_add-self-2
overflow_add-self-2 c = omega (arith, room_to_meet c.requires c.if-self-x-ne0.false)
