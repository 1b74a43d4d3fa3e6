-- What the contract of `translate` tells of a translation that was written. proofs/Written.antt goes from it to demand 3 in one step: the bytes that
-- it answers to have written are a translation of the table. Assumes nothing.
use Rattle.std.specs.Prelude.{◌≡◌, List, ℕ, ◌≤◌, None}
use Rattle.std.proofs.Math.ListN.{length}
use Rattle.recorder.specs.Flag.{live_flag}
use Rattle.table.specs.WellFormed.{WellFormed}
use Rattle.writing.specs.Placed.{placed}
use Rattle.translation.specs.File.{file_of}
use Rattle.translation.specs.Translated.{refusal_of}

module _ (b out : List ℕ) (size : ℕ) (out' : List ℕ) where
  -- what an answer that bytes were written tells: no line of the list is given, and they are the bytes of the file
  pub record WrittenSays : Type 0 where
    pub sound : WellFormed b
    pub given : refusal_of b out ≡ None
    pub size_is : size ≡ length (file_of live_flag b)
    pub room : size ≤ length out
    pub has : out' ≡ placed 0 (file_of live_flag b) out
