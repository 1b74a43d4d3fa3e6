-- The three bits of the slot's record are those of the rules.
use Rattle.std.proofs.Common.{refl, arith}
use Rattle.recorder.specs.Flag.{live_flag}
use Rattle.translation.proofs.Asks.{at_its_slot, first_is, first_range, mark_is}
use Rattle.translation.proofs.marks.mark.Goals as goal

pub slot-x-requires : goal.slot-x-requires
slot-x-requires c =
    let h = at_its_slot c.requires.asks c.requires.r_in c.requires.p_is in
    first_range c.requires.asks refl h live_flag (first_is c.requires.asks refl h c.start.ensures)

pub returns : goal.returns
returns c =
    let h = at_its_slot c.requires.asks c.requires.r_in c.requires.p_is in
    let first = first_is c.requires.asks refl h c.start.ensures in
    omega (arith, mark_is c.requires.asks refl h live_flag first c.slot-x.ensures c.is_start.ensures c.has_goal-goal.ensures c.is_bad-bad.ensures)
