-- It counts the letters that the climb passes.
use Rattle.std.proofs.Common.{refl, ap, [], arith, length}
use Rattle.search.proofs.ClimbLaws.{climb_begins, climb_down, climb_goes_on, climb_ends}
use Rattle.search.proofs.queue.Queue.path_length.Goals as goal

pub loop-head-init : goal.loop-head-init
loop-head-init c = record { down = omega arith; passed = λ label. ([], climb_begins label _ _ _, refl) }

pub returns-then-origin-lt2 : goal.returns-then-origin-lt2
returns-then-origin-lt2 c label =
    let (done, p, e) = c.loop-head.invariant.passed label in
    let d = climb_ends c.requires c.loop-head.i (omega arith) c.at-x.ensures c.at-origin.ensures p c.if-origin-lt2.true in
    omega (arith, ap length d)

pub loop-head-smaller : goal.loop-head-smaller
loop-head-smaller c = climb_down c.requires c.loop-head.i (omega arith) c.at-x.ensures c.at-origin.ensures c.if-origin-lt2.false

pub loop-head-preserved : goal.loop-head-preserved
loop-head-preserved c =
    record {
      down = omega (arith, climb_down c.requires c.loop-head.i (omega arith) c.at-x.ensures c.at-origin.ensures c.if-origin-lt2.false);
      passed = λ label.
          let (done, p, e) = c.loop-head.invariant.passed label in
          (_, climb_goes_on c.requires c.loop-head.i (omega arith) c.at-x.ensures c.at-origin.ensures p c.if-origin-lt2.false, omega arith);
    }
