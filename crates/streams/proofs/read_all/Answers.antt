-- What came joins what came before it, and fits.
use Rattle.std.proofs.Common.{arith, rules, length, ◌-◌, ◌≤◌}
use Rattle.streams.proofs.Came.{came_more}
use Rattle.streams.proofs.Parts.{part_fits}
use Rattle.streams.proofs.read_all.Goals as goal

pub loop-preserved : goal.loop-preserved
loop-preserved g c =
    let was = c.loop.invariant in
    let count = c.loop.count in
    let bytes = c.loop.bytes in
    let n = c.in-Bytes.n in
    let inside : count ≤ length bytes = omega arith in
    let whole = part_fits bytes count _ n inside c.in-Bytes.is c.read_part.ensures.counts in
    let fits : n ≤ length c.read_part.new.part = omega (arith, c.in-Bytes.ensures.counts.1) in
    let came = came_more _ _ _ bytes c.read_part.new.part count (length bytes - count) n inside fits was.came c.in-Bytes.ensures.bytes in
    record { full = search rules; fits = omega arith; came = came }
