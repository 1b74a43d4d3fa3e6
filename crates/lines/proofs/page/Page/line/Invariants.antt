-- What the loops keep: the word and the numbers before stand on the page.
use Rattle.std.proofs.Common.{◌+◌, ◌++◌, length}
use Rattle.lines.proofs.Puts.{OnPage}
use Rattle.lines.proofs.page.Page.line.Given as goal

abbrev pub invariant-loop-n : goal.invariant-loop-n
invariant-loop-n l = OnPage l.word (l.few ++ l.states) l.fn.self l.n-index l.self

abbrev pub invariant-loop-s : goal.invariant-loop-s
invariant-loop-s l = OnPage l.word (l.few ++ l.states) l.fn.self (length l.few + l.s-index) l.self
