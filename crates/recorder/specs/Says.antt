-- What the record's methods say. docs/RULES.md, "The recorder". A method is told a few numbers of the block, and its answer is the one of the rules
-- for every block that has these numbers. proofs/Says.antt has that each statement settles its answer. Assumes nothing.
use Rattle.std.specs.Prelude.{◌≡◌, Bool, ℕ}
use Rattle.recorder.specs.Block.{Block}
use Rattle.recorder.specs.Flag.{live_flag}
use Rattle.recorder.specs.Recorder.{start_of, step_of, bad_of}
use Rattle.recorder.specs.declared.Record.{Record}

-- what a step reads of the block: n, and of the state that is left its goal mark and the bits of the sets that hold it
pub record Leaves (B : Block) (r : Record) (n : ℕ) (goal : Bool) (fair : ℕ) : Type 0 where
  pub states : B.n ≡ n
  pub goal_is : B.goal r.s ≡ goal
  pub fair_is : B.fair r.s ≡ fair

-- r is the start record of state s, for every block of n states
abbrev pub StartSays : ℕ → ℕ → Record → Type 0
StartSays s n r = (B : Block) → B.n ≡ n → r ≡ start_of live_flag B s

-- r' is the step of the rules from r, for every block of which this was read
abbrev pub StepSays : Record → ℕ → Bool → ℕ → ℕ → Bool → Record → Type 0
StepSays r n goal fair s' wish r' = (B : Block) → Leaves B r n goal fair → r' ≡ step_of live_flag B r s' wish

-- b is 1 where r is bad, for every block of m sets
abbrev pub BadSays : Record → ℕ → Bool → Type 0
BadSays r m b = (B : Block) → B.m ≡ m → b ≡ bad_of B r
