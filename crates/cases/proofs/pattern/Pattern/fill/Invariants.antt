-- What the loop keeps: the words so far, and the pattern from x on for the others, are the whole pattern.
use Rattle.std.proofs.Common.{◌≡◌, ◌++◌, ◌-◌, length, take}
use Rattle.cases.specs.Patterned.{patterned}
use Rattle.cases.proofs.pattern.Pattern.fill.Given as goal

abbrev pub invariant-loop-word : goal.invariant-loop-word
invariant-loop-word g l = let plus = g.T.Word.plus in let n = length l.fn.words in
    take l.word-index l.word-items ++ patterned plus l.x l.step (n - l.word-index) ≡ patterned plus l.fn.self.first l.step n
