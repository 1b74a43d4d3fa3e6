-- What the loop keeps: those that are counted, and those of the words from i on, are all that count.
use Rattle.std.proofs.Common.{◌≡◌, ◌≤◌, ◌+◌, ◌-◌, length, drop}
use Rattle.cases.specs.Patterned.{patterned, kept_from}
use Rattle.cases.proofs.pattern.Pattern.kept.Given as goal

abbrev pub invariant-loop-i : goal.invariant-loop-i
invariant-loop-i g l = let plus = g.T.Word.plus in let eq = g.T.PartialEq.eq in let n = length l.words in
    (l.kept ≤ l.i)
    × (l.kept + kept_from eq (patterned plus l.x l.step (n - l.i)) (drop l.i l.words) (l.from - l.i)
    ≡ kept_from eq (patterned plus l.fn.self.first l.step n) l.words l.from)
