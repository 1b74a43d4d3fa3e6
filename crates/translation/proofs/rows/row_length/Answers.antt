-- The row of the slot's state, counted once or twice.
use Rattle.std.proofs.Common.{refl, arith}
use Rattle.recorder.specs.Flag.{live_flag}
use Rattle.translation.proofs.Asks.{at_its_slot, row_counted, row_few}
use Rattle.translation.proofs.rows.row_length.Goals as goal

pub overflow_mul-result : goal.overflow_mul-result
overflow_mul-result c =
    let h = at_its_slot c.requires.asks c.requires.r_in refl in
    rw c.from.ensures
    (omega (arith, row_counted c.requires.asks refl h live_flag c.row_start-from.ensures c.row_start-to.ensures, row_few c.requires.asks refl h live_flag))

pub returns : goal.returns
returns c =
    let h = at_its_slot c.requires.asks c.requires.r_in refl in
    rw c.from.ensures (row_counted c.requires.asks refl h live_flag c.row_start-from.ensures c.row_start-to.ensures)
