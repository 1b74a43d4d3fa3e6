-- That the runs of records match one to one the original's runs with a choice of where to record, as a statement that proofs/Matching.antt proves.
-- Assumes nothing.
use Rattle.std.specs.Prelude.{◌≡◌, List, map, ℕ, length}
use Rattle.recorder.specs.Block.{Block}
use Rattle.recorder.specs.Lasso.{Run}
use Rattle.recorder.specs.Flag.{Flag}
use Rattle.recorder.specs.Recorder.{RecordRun, Choice, Fits, record_at, strike, choice_of, goal_of}
use Rattle.recorder.specs.declared.Record.{Record}

-- ---- the match

pub record Matching (F : Flag) (B : Block) : Type 0 where
  -- a run with a choice gives a run of records with as many steps, and is read off it again, goal marks kept
  pub forth : (ss : List ℕ) (c : Choice) → Run B ss → Fits c (length ss)
      → RecordRun F B (record_at F B ss c)
      × (length (record_at F B ss c) ≡ length ss)
      × (strike (record_at F B ss c) ≡ ss)
      × (choice_of B (record_at F B ss c) ≡ c)
      × (map (goal_of B) (record_at F B ss c) ≡ map B.goal ss)
  -- and every run of records is that of the run and the choice read off it
  pub back : (rs : List Record) → RecordRun F B rs
      → Run B (strike rs)
      × Fits (choice_of B rs) (length (strike rs))
      × (record_at F B (strike rs) (choice_of B rs) ≡ rs)
