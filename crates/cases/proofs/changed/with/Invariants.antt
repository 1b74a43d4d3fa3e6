-- What the loop keeps: the changes so far are made.
use Rattle.std.proofs.Common.{◌≡◌, length, take}
use Rattle.cases.specs.Changed.{changed}
use Rattle.cases.proofs.changed.with.Given as goal

abbrev pub invariant-loop-at : goal.invariant-loop-at
invariant-loop-at g l = (length l.table ≡ g.row.N) × (l.table ≡ changed l.fn.table (take l.at-index l.changes))
