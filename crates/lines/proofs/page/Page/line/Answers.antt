-- The word, number after number, and the end of the line.
use Rattle.std.proofs.Common.{arith, length-append}
use Rattle.lines.proofs.Puts.{line_begins, few_on, states_on, line_ends}
use Rattle.lines.proofs.page.Page.line.Goals as goal

pub loop-n-init : goal.loop-n-init
loop-n-init c = line_begins _ c.text.ensures

pub loop-n-preserved : goal.loop-n-preserved
loop-n-preserved c = few_on _ _ c.loop-n.invariant c.loop-n-test.true c.number.ensures.adds c.number.ensures.upper_bound

pub loop-s-preserved : goal.loop-s-preserved
loop-s-preserved c = states_on _ _ c.loop-s.invariant c.loop-s-test.true c.number-in-loop-s.ensures.adds c.number-in-loop-s.ensures.upper_bound

pub returns-clause-adds : goal.returns-clause-adds
returns-clause-adds c = line_ends c.loop-s.invariant (omega (arith, length-append c.args.few.now c.args.states.now)) c.text-2.ensures
