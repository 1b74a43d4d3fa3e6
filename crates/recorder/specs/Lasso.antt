-- Runs, lassos, and which lasso is to be returned. docs/RULES.md, "Lasso and choice". A lasso is a list of states s0..sk and a
-- place l; its length k is one less than the number of its states. Definitions only. Assumes nothing.
use Rattle.std.specs.Prelude.{◌≡◌, true, false, cond, List, [], ◌∷◌, ◌++◌, ℕ, suc, ◌+◌, ◌-◌, ◌*◌, ◌≤◌, ◌<◌, leb, length, get_or}
use Rattle.order.specs.Word.{Word, ◌≺◌}
use Rattle.recorder.specs.Block.{Block, HasBit}

-- the state at place i
abbrev pub state : List ℕ → ℕ → ℕ
state ss i = get_or ss i 0

-- a finite run s0..sk: s0 is a start, each si to s(i+1) is an edge
pub record Run (B : Block) (ss : List ℕ) : Type 0 where
  pub some : 0 < length ss
  pub starts : B.start (state ss 0) ≡ true
  pub edges : (i : ℕ) → suc i < length ss → B.edge (state ss i) (state ss (suc i)) ≡ true

-- a run with 0 ≤ l ≤ k and an edge from sk to sl, whose loop sl..sk has a member of every set below m
pub record FairLoop (B : Block) (ss : List ℕ) (l : ℕ) : Type 0 where
  pub here : l < length ss
  pub run : Run B ss
  pub closes : B.edge (state ss (length ss - 1)) (state ss l) ≡ true
  pub meets : (b : ℕ) → b < B.m → (i : ℕ) × (l ≤ i) × (i < length ss) × HasBit (B.fair (state ss i)) b

-- a lasso: no si has the goal
pub record Lasso (B : Block) (ss : List ℕ) (l : ℕ) : Type 0 where
  pub loop : FairLoop B ss l
  pub no_goal : (i : ℕ) → i < length ss → B.goal (state ss i) ≡ false

-- s0..s(k+1), where s(k+1) is sl
abbrev pub closed : List ℕ → ℕ → List ℕ
closed ss l = ss ++ (state ss l ∷ [])

-- the numbers of the places i, i + 1, ..: 2·si, plus 1 where i ≤ l
abbrev pub numbers_from : ℕ → List ℕ → ℕ → Word
numbers_from i [] l = []
numbers_from i (s ∷ ss) l = (2 * s + cond (leb i l) 1 0) ∷ numbers_from (suc i) ss l

-- the list of numbers by which ties are broken, of the places 0 to k + 1
unfoldable pub tie_of : List ℕ → ℕ → Word
tie_of ss l = numbers_from 0 (closed ss l) l

-- Of the lassos that L says, (ss, l) is the one to return: none is shorter, and among those of its length none has a list of
-- numbers that comes before in dictionary order.
pub record Least (L : List ℕ → ℕ → Type 0) (ss : List ℕ) (l : ℕ) : Type 0 where
  pub is : L ss l
  pub shortest : (ss' : List ℕ) (l' : ℕ) → L ss' l' → length ss ≤ length ss'
  pub first : (ss' : List ℕ) (l' : ℕ) → L ss' l' → length ss' ≡ length ss → ¬ (tie_of ss' l' ≺ tie_of ss l)

-- there is none, of any length: the answer is "holds"
abbrev pub None : (List ℕ → ℕ → Type 0) → Type 0
None L = (ss : List ℕ) (l : ℕ) → ¬ L ss l

-- the answer for a block: its least lasso, or none
abbrev pub LeastLasso : Block → List ℕ → ℕ → Type 0
LeastLasso B ss l = Least (Lasso B) ss l

abbrev pub NoLasso : Block → Type 0
NoLasso B = None (Lasso B)
