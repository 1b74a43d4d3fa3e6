-- Demand 3, of the bytes that are written: the finite runs of the translated file from its starts match one to one the original's finite runs from
-- its starts, each with a choice of the place at which to record. This is the statement, a field for each sentence; proofs/Demand3.antt has the
-- proof. Over any flag R, then read for the flag of docs/RULES.md, "The recorder". Assumes nothing.
use Rattle.std.specs.Prelude.{◌≡◌, true, false, ◌↔◌, List, map, ℕ, suc, ◌<◌, length}
use Rattle.recorder.specs.Flag.{Flag, live_flag}
use Rattle.recorder.specs.Lasso.{Lasso, Run, state}
use Rattle.recorder.specs.Recorder.{Choice, Fits, record_at, choice_of}
use Rattle.recorder.specs.SlotGraph.{at, slot}
use Rattle.recorder.specs.Looped.{Looped}
use Rattle.table.specs.BlockOf.{block_of}
use Rattle.table.specs.Recording.{state_of}
use Rattle.translation.specs.Marks.{bad_in}

-- ---- the statement

-- the slots of a run with a choice
abbrev pub recording : Flag → List ℕ → List ℕ → Choice → List ℕ
recording R b ss c = map (slot (block_of b)) (record_at R (block_of b) ss c)

-- slots with the record struck out: their states
abbrev pub struck : List ℕ → List ℕ → List ℕ
struck b ps = map (state_of b) ps

-- the place at which slots recorded
abbrev pub chosen : List ℕ → List ℕ → Choice
chosen b ps = choice_of (block_of b) (map (at (block_of b)) ps)

-- F is a translation of the table b, by the flag R and the lassos that L says
pub record TranslatesBy (R : Flag) (b : List ℕ) (L : List ℕ → ℕ → Type 0) (F : List ℕ) : Type 0 where
  -- every run of the original with a choice is recorded by a run of the file, of the same length, off which both are read again
  pub forth : (ss : List ℕ) (c : Choice) → Run (block_of b) ss → Fits c (length ss)
      → Run (block_of F) (recording R b ss c)
      × (length (recording R b ss c) ≡ length ss)
      × (struck b (recording R b ss c) ≡ ss)
      × (chosen b (recording R b ss c) ≡ c)
  -- every run of the file is the recording of the run and the choice that are read off it, and so of no other
  pub back : (ps : List ℕ) → Run (block_of F) ps
      → Run (block_of b) (struck b ps)
      × Fits (chosen b ps) (length (struck b ps))
      × (recording R b (struck b ps) (chosen b ps) ≡ ps)
  -- goal marks are kept, state by state
  pub goals : (ps : List ℕ) → Run (block_of F) ps → (i : ℕ) → i < length ps → (block_of F).goal (state ps i) ≡ (block_of b).goal (state (struck b ps) i)
  -- a run of k + 1 steps ends in a bad slot exactly if a place was recorded, the last state is that state again, and the first k + 1 states, looped
  -- there, are a lasso
  pub bad : (ss : List ℕ) (c : Choice) (k : ℕ) → Run (block_of b) ss → Fits c (length ss) → length ss ≡ suc (suc k)
      → (bad_in F (state (recording R b ss c) (suc k)) ≡ true) ↔ Looped L ss k c
  -- a run of no steps never does
  pub never : (ss : List ℕ) (c : Choice) → Run (block_of b) ss → Fits c (length ss) → length ss ≡ 1 → bad_in F (state (recording R b ss c) 0) ≡ false

-- the same by the rules' flag and lassos
abbrev pub Translates : List ℕ → List ℕ → Type 0
Translates b F = TranslatesBy live_flag b (Lasso (block_of b)) F
