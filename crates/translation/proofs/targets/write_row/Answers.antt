-- When target i comes, what the slot leads to along the targets before it is written (`Rowing`).
use Rattle.std.proofs.Common.{true, false, ◌+◌, ◌*◌, eqb, eq-eqb, ne_eqb, refl, arith}
use Rattle.recorder.specs.Flag.{live_flag}
use Rattle.recorder.specs.Slots.{slot_of}
use Rattle.table.proofs.Inside.{target_inside}
use Rattle.translation.proofs.Asks.{at_its_slot, unsaved_is, from_is, to_is, row_in}
use Rattle.translation.proofs.Writing.{rowing_begins, rowing_ends}
use Rattle.translation.proofs.Along.{zero_is, zero_range, along_slot, Along, small, x_room, y_room, one_on, both_on}
use Rattle.translation.proofs.targets.write_row.Goals as goal
use Rattle.translation.proofs.targets.write_row.Goals.{After-target, then-r-n, else-r-n}

-- target i, when it was read
here : (c : After-target) → Along live_flag c.args.bytes.now c.args.part.now c.args.t (slot_of c.args.t.states c.args.t.sets c.args.r) c.args.at c.loop-i.part c.loop-i.i c.loop-i.end
    (eqb c.args.r.t c.args.t.states) c.target.result (c.target.result * c.with_flag_and_bits-each.result + c.slot-x.result) (c.target.result * c.with_flag_and_bits-each.result + c.slot-y.result)
here c =
    let h = at_its_slot c.requires.asks c.requires.r_in refl in
    let x = zero_is c.requires.asks refl h c.has_goal-goal.ensures c.fair-fair.ensures true c.step.ensures in
    let y = zero_is c.requires.asks refl h c.has_goal-goal.ensures c.fair-fair.ensures false c.step-2.ensures in
    record {
      asks = c.requires.asks;
      p_in = h.0;
      row = c.loop-i.invariant;
      to = omega (arith, to_is c.requires.asks refl h c.row_start-to.ensures);
      target_is = c.target.ensures;
      both_is = unsaved_is c.requires.asks refl h;
      x_is = along_slot live_flag c.requires.asks refl h true x c.slot-x.ensures c.with_flag_and_bits-each.ensures c.target.result;
      y_is = along_slot live_flag c.requires.asks refl h false y c.slot-y.ensures c.with_flag_and_bits-each.ensures c.target.result;
    }

pub slot-x-requires : goal.slot-x-requires
slot-x-requires c =
    let h = at_its_slot c.requires.asks c.requires.r_in refl in
    zero_range live_flag c.requires.asks refl h true (zero_is c.requires.asks refl h c.has_goal-goal.ensures c.fair-fair.ensures true c.step.ensures)

pub slot-y-requires : goal.slot-y-requires
slot-y-requires c =
    let h = at_its_slot c.requires.asks c.requires.r_in refl in
    zero_range live_flag c.requires.asks refl h false (zero_is c.requires.asks refl h c.has_goal-goal.ensures c.fair-fair.ensures false c.step-2.ensures)

pub loop-i-init : goal.loop-i-init
loop-i-init c =
    let h = at_its_slot c.requires.asks c.requires.r_in refl in
    let inside = row_in c.requires.asks refl h in
    rowing_begins live_flag c.args.bytes.now c.args.part.now _ c.args.at (from_is c.requires.asks refl h c.row_start-from.ensures) (omega arith) c.requires.room

pub target-requires : goal.target-requires
target-requires c =
    let h = at_its_slot c.requires.asks c.requires.r_in refl in
    let inside = row_in c.requires.asks refl h in
    target_inside _ _ c.requires.asks.laid _ (omega (arith, to_is c.requires.asks refl h c.row_start-to.ensures))

pub overflow_mul-first : goal.overflow_mul-first
overflow_mul-first c = omega (arith, small (here (goal.at.overflow_mul-first c).After-target))

pub overflow_add-first : goal.overflow_add-first
overflow_add-first c = omega (arith, small (here (goal.at.overflow_add-first c).After-target))

pub put-requires : goal.put-requires
put-requires c = omega (arith, x_room (here (goal.at.put-requires c).After-target))

pub overflow_add-end : goal.overflow_add-end
overflow_add-end c = omega (arith, x_room (here (goal.at.overflow_add-end c).After-target))

pub overflow_add-first-then-r-n : goal.overflow_add-first-then-r-n
overflow_add-first-then-r-n c = omega (arith, small (here (goal.at.overflow_add-first-then-r-n c).After-target))

pub put-requires-then-r-n : goal.put-requires-then-r-n
put-requires-then-r-n c = omega (arith, y_room (here (goal.at.put-requires-then-r-n c).After-target) c.put.ensures (eq-eqb _ _ c.if-r-n.true))

pub overflow_add-end-then-r-n : goal.overflow_add-end-then-r-n
overflow_add-end-then-r-n c = omega (arith, y_room (here (goal.at.overflow_add-end-then-r-n c).After-target) c.put.ensures (eq-eqb _ _ c.if-r-n.true))

pub loop-i-preserved : goal.loop-i-preserved
loop-i-preserved c =
    let k = here (goal.at.loop-i-preserved c).After-target in
    elim c.if-r-n.branch [
      | then-r-n w ↦ rw (w.end-is, w.part-is) (both_on k c.put.ensures (eq-eqb _ _ w.if-r-n.true) w.put-then-r-n.ensures)
      | else-r-n w ↦ rw (w.end-is, w.part-is) (one_on k c.put.ensures (ne_eqb _ _ w.if-r-n.false))
    ]

pub returns : goal.returns
returns c =
    let h = at_its_slot c.requires.asks c.requires.r_in refl in
    let to = to_is c.requires.asks refl h c.row_start-to.ensures in
    let both = rowing_ends c.loop-i.invariant (omega arith) in
    record { value = both.0; part_after = both.1 }
