-- The numbers of a run of records. proofs/Words.antt has that they determine the run, and are those by which lassos are ordered. Assumes nothing.
use Rattle.std.specs.Prelude.{List, map, ℕ}
use Rattle.recorder.specs.Block.{Block}
use Rattle.recorder.specs.Recorder.{number}
use Rattle.recorder.specs.declared.Record.{Record}

-- the numbers of a run of records
abbrev pub word : Block → List Record → List ℕ
word B rs = map (number B) rs
