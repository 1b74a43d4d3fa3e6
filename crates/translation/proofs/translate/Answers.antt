-- The table is opened and taken, the code goes down line 11, and then it lends each part of the output to its writer.
use Rattle.std.proofs.Common.{sym, ap, ◌∙◌, arith}
use Rattle.recorder.specs.Flag.{live_flag}
use Rattle.writing.specs.File.{listed}
use Rattle.translation.specs.File.{slot_mark}
use Rattle.table.proofs.WellFormed.{refused_why}
use Rattle.translation.proofs.Laws.{table_refused, short_output, translated, Counted, asked, counted, size_is, sizes_small, header_there, rows_room, rows_there, targets_room, targets_there, marks_room, marks_there}
use Rattle.translation.proofs.translate.Goals as goal
use Rattle.translation.proofs.translate.Goals.{After-edge_count-edges}

-- what the code counted
sizes : (c : After-edge_count-edges) → Counted c.args.bytes.now c.slot_count-slots.result c.edge_count-edges.result
sizes c = counted (sym c.open-opened.ensures ∙ c.in-Ok.is) c.slot_count-slots.ensures c.edge_count-edges.ensures

pub returns-in_default : goal.returns-in_default
returns-in_default c = table_refused _ _ _ (refused_why _ _ _ _ c.open-opened.ensures c.in_default.is c.why.ensures)

pub slot_count-slots-requires : goal.slot_count-slots-requires
slot_count-slots-requires c = let l = (asked (sym c.open-opened.ensures ∙ c.in-Ok.is)).laid in (l.states_to, omega (arith, l.sets_to))

pub edge_count-edges-requires : goal.edge_count-edges-requires
edge_count-edges-requires c = let l = (asked (sym c.open-opened.ensures ∙ c.in-Ok.is)).laid in (l.states_to, l.edges_to, omega (arith, l.sets_to))

pub overflow_mul-targets : goal.overflow_mul-targets
overflow_mul-targets c = omega (arith, sizes_small (sizes c))

pub overflow_add-targets : goal.overflow_add-targets
overflow_add-targets c = omega (arith, sizes_small (sizes c))

pub overflow_mul-marks : goal.overflow_mul-marks
overflow_mul-marks c = omega (arith, sizes_small (sizes c))

pub overflow_add-marks : goal.overflow_add-marks
overflow_add-marks c = omega (arith, sizes_small (sizes c))

pub overflow_add-size : goal.overflow_add-size
overflow_add-size c = omega (arith, sizes_small (sizes c))

pub returns-then-out-size : goal.returns-then-out-size
returns-then-out-size c =
    let k = sizes (goal.at.returns-then-out-size c).After-edge_count-edges in
    short_output _ _ _ (sym c.open-opened.ensures ∙ c.in-Ok.is) (omega (arith, size_is k))

pub write_header-requires-clause-edges_bound : goal.write_header-requires-clause-edges_bound
write_header-requires-clause-edges_bound c = omega (arith, sizes_small (sizes (goal.at.write_header-requires-clause-edges_bound c).After-edge_count-edges))

pub write_rows-requires : goal.write_rows-requires
write_rows-requires c =
    let k = sizes (goal.at.write_rows-requires c).After-edge_count-edges in
    let first = header_there live_flag k c.args.out.now c.if-out-size.false c.write_header.ensures in
    record { asks = asked (sym c.open-opened.ensures ∙ c.in-Ok.is); slots_are = k.slots_are; part_len = rows_room live_flag k _ c.if-out-size.false first }

pub write_targets-requires : goal.write_targets-requires
write_targets-requires c =
    let k = sizes (goal.at.write_targets-requires c).After-edge_count-edges in
    let first = header_there live_flag k c.args.out.now c.if-out-size.false c.write_header.ensures in
    let second = rows_there live_flag k _ c.if-out-size.false first c.write_rows.ensures in
    record { asks = asked (sym c.open-opened.ensures ∙ c.in-Ok.is); slots_are = k.slots_are; part_len = targets_room live_flag k _ c.if-out-size.false second }

pub write_marks-requires : goal.write_marks-requires
write_marks-requires c =
    let k = sizes (goal.at.write_marks-requires c).After-edge_count-edges in
    let first = header_there live_flag k c.args.out.now c.if-out-size.false c.write_header.ensures in
    let second = rows_there live_flag k _ c.if-out-size.false first c.write_rows.ensures in
    let third = targets_there live_flag k _ c.if-out-size.false second c.write_targets.ensures in
    record { asks = asked (sym c.open-opened.ensures ∙ c.in-Ok.is); part_len = marks_room live_flag k _ c.if-out-size.false third ∙ k.slots_are }

pub returns : goal.returns
returns c =
    let k = sizes (goal.at.returns c).After-edge_count-edges in
    let first = header_there live_flag k c.args.out.now c.if-out-size.false c.write_header.ensures in
    let second = rows_there live_flag k _ c.if-out-size.false first c.write_rows.ensures in
    let third = targets_there live_flag k _ c.if-out-size.false second c.write_targets.ensures in
    let marks = c.write_marks.ensures ∙ ap (listed (slot_mark live_flag c.args.bytes.now)) (sym k.slots_are) in
    translated _ c.args.out.now _ (sym c.open-opened.ensures ∙ c.in-Ok.is) (omega (arith, size_is k)) _ (size_is k) _ (marks_there live_flag k _ c.if-out-size.false third marks) k.formed
