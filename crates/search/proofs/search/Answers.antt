-- The table is opened and taken, the code goes down lines 9 and 10, and then it finds. The laws are those of proofs/Laws.antt.
use Rattle.std.proofs.Common.{◌∙◌, sym, arith}
use Rattle.table.proofs.WellFormed.{refused_why}
use Rattle.search.proofs.Laws.{table_refused, counts_bound, slots_small, work_refused, report_refused, find_asks, found}
use Rattle.search.proofs.search.Goals as goal

pub returns-in_default : goal.returns-in_default
returns-in_default c = table_refused _ _ _ _ (refused_why _ _ _ _ c.open-opened.ensures c.in_default.is c.why.ensures)

pub slot_count-slots-requires : goal.slot_count-slots-requires
slot_count-slots-requires c = counts_bound _ c.args.work.now c.args.report.now _ (sym c.open-opened.ensures ∙ c.in-Ok.is)

pub overflow_mul-slots : goal.overflow_mul-slots
overflow_mul-slots c = omega (arith, slots_small _ c.args.work.now c.args.report.now _ (sym c.open-opened.ensures ∙ c.in-Ok.is) c.slot_count-slots.ensures)

pub returns-then-work-slots : goal.returns-then-work-slots
returns-then-work-slots c = work_refused _ _ _ _ (sym c.open-opened.ensures ∙ c.in-Ok.is) c.slot_count-slots.ensures c.if-work-slots.true

pub returns-then-report-slots : goal.returns-then-report-slots
returns-then-report-slots c = report_refused _ _ _ _ (sym c.open-opened.ensures ∙ c.in-Ok.is) c.slot_count-slots.ensures c.if-work-slots.false c.if-report-slots.true

pub find-requires : goal.find-requires
find-requires c = find_asks _ _ _ _ (sym c.open-opened.ensures ∙ c.in-Ok.is) c.slot_count-slots.ensures c.if-work-slots.false c.if-report-slots.false

pub returns : goal.returns
returns c = found _ _ _ _ (sym c.open-opened.ensures ∙ c.in-Ok.is) c.slot_count-slots.ensures c.if-work-slots.false c.if-report-slots.false _ _ _ c.find.ensures
