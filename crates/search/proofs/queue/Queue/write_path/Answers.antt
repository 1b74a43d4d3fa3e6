-- Each letter that the climb passes is written before the letters passed so far, and when no word is left these are the path. The laws are those of
-- proofs/Writing.antt.
use Rattle.std.proofs.Common.{arith}
use Rattle.search.proofs.Writing.{writing_begins, state_small, writing_on, counts_path, writes_path}
use Rattle.search.proofs.queue.Queue.write_path.Goals as goal

pub loop-left-init : goal.loop-left-init
loop-left-init c = writing_begins c.requires.climbs c.requires.len_value

pub overflow_cast-report : goal.overflow_cast-report
overflow_cast-report c =
    let r = c.requires in
    omega (arith, state_small r.climbs r.len_value c.loop-left.invariant c.loop-left-test.true c.at-x.ensures c.of_slot-r.ensures r.n_bound.2)

pub loop-left-preserved : goal.loop-left-preserved
loop-left-preserved c =
    let r = c.requires in
    rw c.saturating_sub-i.ensures
    (writing_on r.climbs r.len_value c.loop-left.invariant c.loop-left-test.true c.at-x.ensures c.of_slot-r.ensures c.from-unsaved.ensures
    c.at-origin.ensures)

pub returns-clause-value : goal.returns-clause-value
returns-clause-value c = counts_path c.requires.climbs c.requires.len_value c.loop-left.invariant (omega arith)

pub returns-clause-report_after : goal.returns-clause-report_after
returns-clause-report_after c = writes_path c.requires.climbs c.requires.len_value c.loop-left.invariant (omega arith)
