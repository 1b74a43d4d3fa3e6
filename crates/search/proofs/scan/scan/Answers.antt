-- Each fact that the check leaves is what is known at its place (proofs/Places.antt).
use Rattle.std.proofs.Common.{◌∙◌, true, false, arith, rules}
use Rattle.search.proofs.MeetLaws.{queue_trans, rest_trans}
use Rattle.search.proofs.Scanning.{within_as, left_ended, left_stopped}
use Rattle.search.proofs.Places.{waiting_begins, waiting_goes_on, state_small, marks_inside, from_inside, to_inside, row_begun, next_inside, in_row, step_fits, stops, first_fits, other_fits, done_saved, done_unsaved, row_goes_on}
use Rattle.search.proofs.scan.scan.Goals as goal
use Rattle.search.proofs.scan.scan.Goals.{then-r-n, else-r-n}

pub loop-head-init : goal.loop-head-init
loop-head-init c = record { waiting = waiting_begins c.requires; same = search rules }

-- ---- the slot at head is taken from the queue, and its state's marks and row are read

pub has_goal-goal-requires : goal.has_goal-goal-requires
has_goal-goal-requires c = marks_inside c.requires c.loop-head.invariant.waiting c.loop-head-test.true c.of_slot-r.ensures

pub fair-fair-requires : goal.fair-fair-requires
fair-fair-requires c = marks_inside c.requires c.loop-head.invariant.waiting c.loop-head-test.true c.of_slot-r.ensures

pub row_start-from-requires : goal.row_start-from-requires
row_start-from-requires c = from_inside c.requires c.loop-head.invariant.waiting c.loop-head-test.true c.of_slot-r.ensures

pub overflow_add-r : goal.overflow_add-r
overflow_add-r c = omega (arith, state_small c.requires c.loop-head.invariant.waiting c.loop-head-test.true c.of_slot-r.ensures)

pub row_start-to-requires : goal.row_start-to-requires
row_start-to-requires c = to_inside c.requires c.loop-head.invariant.waiting c.loop-head-test.true c.of_slot-r.ensures

pub loop-i-init : goal.loop-i-init
loop-i-init c = record {
  row =
      row_begun c.requires c.loop-head.invariant.waiting c.loop-head-test.true c.of_slot-r.ensures c.has_goal-goal.ensures c.fair-fair.ensures c.row_start-from.ensures
      c.row_start-to.ensures;
  same = search rules;
}

-- ---- target i of the row, and the two steps along it

pub target-next-requires : goal.target-next-requires
target-next-requires c = next_inside c.loop-i.invariant.row c.loop-i-test.true

pub returns-then-is_bad-clause-says : goal.returns-then-is_bad-clause-says
returns-then-is_bad-clause-says c =
    let k = in_row c.loop-i.invariant.row c.loop-i-test.true c.target-next.ensures in
    left_stopped c.requires.slots_are (rest_trans c.loop-head.invariant.waiting.same c.loop-i.invariant.row.same) (stops k c.step-saving.ensures c.is_bad.ensures c.if-is_bad.true)

pub slot-y-requires : goal.slot-y-requires
slot-y-requires c = step_fits (in_row c.loop-i.invariant.row c.loop-i-test.true c.target-next.ensures) true c.step-saving.ensures

pub meet-requires : goal.meet-requires
meet-requires c = first_fits (in_row c.loop-i.invariant.row c.loop-i-test.true c.target-next.ensures) c.step-saving.ensures c.slot-y.ensures

pub slot-z-requires : goal.slot-z-requires
slot-z-requires c = step_fits (in_row c.loop-i.invariant.row c.loop-i-test.true c.target-next.ensures) false c.step-plain.ensures

pub meet-requires-then-r-n : goal.meet-requires-then-r-n
meet-requires-then-r-n c =
    let k = in_row c.loop-i.invariant.row c.loop-i-test.true c.target-next.ensures in
    rw c.meet.ensures.same.slots
    (other_fits k c.step-saving.ensures c.slot-y.ensures c.is_bad.ensures c.if-is_bad.false c.meet.ensures.says c.step-plain.ensures c.slot-z.ensures)

pub loop-i-preserved : goal.loop-i-preserved
loop-i-preserved c =
    let k = in_row c.loop-i.invariant.row c.loop-i-test.true c.target-next.ensures in
    elim c.if-r-n.branch [
      | else-r-n w ↦
          let d = done_saved k c.step-saving.ensures c.slot-y.ensures c.is_bad.ensures c.if-is_bad.false c.meet.ensures.says w.if-r-n.false in
          rw w.queue-is (record { row = rw c.meet.ensures.same.slots (row_goes_on c.loop-i.invariant.row d); same = queue_trans c.loop-i.invariant.same c.meet.ensures.same })
      | then-r-n w ↦
          let says = rw c.meet.ensures.same.slots at w.meet-then-r-n.ensures.says in
          let m = c.meet.ensures.says in
          let d = done_unsaved k c.step-saving.ensures c.slot-y.ensures c.is_bad.ensures c.if-is_bad.false m w.step-plain.ensures w.slot-z.ensures w.if-r-n.true says in
          let e = c.meet.ensures.same in
          let f = w.meet-then-r-n.ensures.same in
          rw w.queue-is (record {
            row = within_as (omega (arith, e.slots, f.slots)) (row_goes_on c.loop-i.invariant.row d);
            same = record { slots = omega (arith, c.loop-i.invariant.same.slots, e.slots, f.slots); words = f.words ∙ e.words ∙ c.loop-i.invariant.same.words };
          })
    ]

-- ---- the row's end, and the next index of the queue

pub loop-head-preserved : goal.loop-head-preserved
loop-head-preserved c = record {
  waiting = waiting_goes_on c.loop-i.invariant.row c.loop-head.invariant.waiting c.loop-i-test.false;
  same = queue_trans c.loop-head.invariant.same c.loop-i.invariant.same;
}

pub returns-after-loop-head-clause-says : goal.returns-after-loop-head-clause-says
returns-after-loop-head-clause-says c = left_ended c.requires.slots_are c.loop-head.invariant.waiting c.loop-head-test.false
