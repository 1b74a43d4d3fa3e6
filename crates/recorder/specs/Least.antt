-- The second demand, of the rules themselves, as a statement that proofs/Least.antt proves: the least bad word of the slot graph is the list of
-- numbers of the least lasso; there is at most one least lasso; and no run ends bad exactly if there is no lasso of any length. Over any flag, then
-- read for the flag of docs/RULES.md, "The recorder". Assumes nothing.
use Rattle.std.specs.Prelude.{◌≡◌, ◌↔◌, List, ℕ}
use Rattle.order.specs.Word.{Word}
use Rattle.order.specs.Graph.{Safe, LeastBad}
use Rattle.recorder.specs.Block.{Block}
use Rattle.recorder.specs.Lasso.{Lasso, tie_of, Least, None}
use Rattle.recorder.specs.Flag.{Flag, live_flag}
use Rattle.recorder.specs.SlotGraph.{slot_graph}

-- what is said of the flag F and the lassos that L says
pub record LeastBy (F : Flag) (B : Block) (L : List ℕ → ℕ → Type 0) : Type 0 where
  -- the least bad word is the least lasso's list of numbers
  pub spelled : (w : Word) → LeastBad (slot_graph F B) w ↔ ((ss : List ℕ) × (l : ℕ) × Least L ss l × (tie_of ss l ≡ w))
  -- there is at most one least lasso
  pub unique : (ss ss' : List ℕ) (l l' : ℕ) → Least L ss l → Least L ss' l' → (ss ≡ ss') × (l ≡ l')
  -- no run ends bad exactly if there is no lasso, of any length
  pub none : Safe (slot_graph F B) ↔ None L

-- ---- the rules' flag

-- the same of the lassos of docs/RULES.md, "Lasso and choice"
abbrev pub LeastOfBlock : Block → Type 0
LeastOfBlock B = LeastBy live_flag B (Lasso B)
