-- At each turn one more word is 0.
use Rattle.std.proofs.Common.{rules}
use Rattle.writing.proofs.Cleared.{cleared_next}
use Rattle.writing.proofs.clear.Goals as goal

pub loop-i-preserved : goal.loop-i-preserved
loop-i-preserved c =
    let next = cleared_next c.loop-i.i c.args.words.now in
    record { to = search rules; is = search rules; same_length = search rules }
