-- The flag of a record, as a rule of its own, so that what is proved of records is proved once over any such rule. docs/RULES.md, "The recorder":
-- live is 0 at a start; live' is 1 if s has the goal, else live. Definitions only. Assumes nothing.
use Rattle.std.specs.Prelude.{◌≡◌, Bool, false, ◌||◌, List, ℕ, zero, suc, leb, length}
use Rattle.recorder.specs.Block.{Block}
use Rattle.recorder.specs.Lasso.{state, FairLoop}

-- a flag's value at a start; and its next value by the flag, whether the state that is left is on the loop (t' is not n), and
-- whether that state has the goal
pub record Flag : Type 0 where
  pub first : Bool
  pub next : Bool → Bool → Bool → Bool

-- the rules' flag
abbrev pub live_flag : Flag
live_flag = record { first = false; next = λ flag onLoop goal. goal || flag }

-- the flag after the first i states, on the loop from place l on
abbrev pub flag_at : Flag → Block → List ℕ → ℕ → ℕ → Bool
flag_at F B ss l zero = F.first
flag_at F B ss l (suc i) = F.next (flag_at F B ss l i) (leb l i) (B.goal (state ss i))

-- a lasso by the flag F: the flag after all its states is 0. By the rules' flag these are the lassos (Live.antt, `lasso_live`).
pub record LassoBy (F : Flag) (B : Block) (ss : List ℕ) (l : ℕ) : Type 0 where
  pub loop : FairLoop B ss l
  pub flag : flag_at F B ss l (length ss) ≡ false
