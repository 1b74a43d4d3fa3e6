-- The third demand, of the rules themselves, in one statement that proofs/Demand3.antt proves, a field for each sentence; and that the numbers of a
-- run of records are the numbers of docs/RULES.md, "Lasso and choice", and determine the run. Over any flag, then read for the flag of "The
-- recorder". The bytes of a translated table come later. Assumes nothing.
use Rattle.std.specs.Prelude.{◌≡◌, true, false, cond, ◌↔◌, List, ℕ, suc, ◌+◌, ◌*◌, ◌<◌, leb, length, get_or}
use Rattle.recorder.specs.Block.{Block}
use Rattle.recorder.specs.Lasso.{Lasso, Run, state}
use Rattle.recorder.specs.Flag.{Flag, live_flag}
use Rattle.recorder.specs.Recorder.{RecordRun, Choice, place, Fits, record_at, record_of, bad_of}
use Rattle.recorder.specs.Looped.{Looped}
use Rattle.recorder.specs.Matching.{Matching}
use Rattle.recorder.specs.Words.{word}
use Rattle.recorder.specs.declared.Record.{Record}

-- what is said of the flag F and the lassos that L says
pub record Demand3By (F : Flag) (B : Block) (L : List ℕ → ℕ → Type 0) : Type 0 where
  -- the original's runs with a choice and the runs of records match one to one, goal marks kept
  pub one_to_one : Matching F B
  -- a run of k + 1 steps, s0..s(k+1), ends bad exactly where s(k+1) is the recorded sl and s0..sk with l is a lasso
  pub bad : (ss : List ℕ) (c : Choice) (k : ℕ) → Run B ss → Fits c (length ss) → length ss ≡ suc (suc k)
      → (bad_of B (record_of (record_at F B ss c) (suc k)) ≡ true) ↔ Looped L ss k c
  -- a run of no steps never does
  pub never : (ss : List ℕ) (c : Choice) → Run B ss → length ss ≡ 1 → bad_of B (record_of (record_at F B ss c) 0) ≡ false
  -- the number at place i is 2·si, plus 1 where i ≤ l
  pub numbers : (ss : List ℕ) (l : ℕ) → Run B ss → Fits (place l) (length ss) → (i : ℕ) → i < length ss
      → get_or (word B (record_at F B ss (place l))) i 0 ≡ 2 * state ss i + cond (leb i l) 1 0
  -- the numbers determine the run
  pub determined : (rs rs' : List Record) → RecordRun F B rs → RecordRun F B rs' → word B rs ≡ word B rs' → rs ≡ rs'

-- ---- the rules' flag

-- the same of the lassos of docs/RULES.md, "Lasso and choice"
abbrev pub Demand3 : Block → Type 0
Demand3 B = Demand3By live_flag B (Lasso B)
