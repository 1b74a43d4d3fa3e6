-- What holds of a record that moved. docs/RULES.md, "The recorder", "Refusal list" and "Strength of the statements". proofs/Laws.antt has the laws of
-- a step: the answer line by line, that the statement settles it, and that a record that moved is in range and went along an edge. Assumes nothing.
use Rattle.std.specs.Prelude.{Ok, ◌≡◌, Bool, true, ℕ}
use mathlib.Core.List.{List}
use Rattle.recorder.specs.Flag.{live_flag}
use Rattle.recorder.specs.Recorder.{step_of}
use Rattle.recorder.specs.declared.Record.{Record}
use Rattle.table.specs.Open.{open_of}
use Rattle.table.specs.BlockOf.{block_of}
use Rattle.table.specs.declared.Table.{Table}
use Rattle.stepping.specs.Step.{record_fits}

module _ (b : List ℕ) (r : Record) (s' : ℕ) (wish : Bool) where
  -- where a record moved: the table is accepted, no line is given, and the record is the step of the rules
  pub record MovedSays (r' : Record) : Type 0 where
    pub table : Table
    pub accepted : open_of b ≡ Ok table
    pub fits : record_fits table.states table.sets r s' ≡ true
    pub edge : (block_of b).edge r.s s' ≡ true
    pub moved : r' ≡ step_of live_flag (block_of b) r s' wish
