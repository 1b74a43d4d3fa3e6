-- What each writer asks of the table: it is accepted. proofs/Asks.antt has what is known of a record r of its slots, which the code carries along from
-- slot to slot, and the numbers that the code computes of it: its mark, and how long its row is. Assumes nothing.
use Rattle.std.specs.Prelude.{List, ℕ}
use Rattle.table.specs.WellFormed.{WellFormed}
use Rattle.table.specs.LaidOut.{LaidOut}
use Rattle.table.specs.declared.Table.{Table}

pub record Asks (b : List ℕ) (t : Table) : Type 0 where
  pub formed : WellFormed b
  pub laid : LaidOut b t
