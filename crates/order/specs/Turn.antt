-- One turn of a breadth-first search: the index `head` is next, and its edges are followed in the order of their labels. `Turning` says where a turn
-- stands: what leads from head with a label below L is dealt with. proofs/Turn.antt has one law for each way a turn goes on or ends. Assumes nothing.
use Rattle.std.specs.Prelude.{◌≡◌, ℕ, suc, ◌≤◌, ◌<◌}
use Rattle.order.specs.Graph.{Graph}
use Rattle.order.specs.Log.{Queue, Queued, Before, Log}

-- Between two turns: the log, and no origin is past head.
pub record Between (G : Graph) (q : Queue) (head tail : ℕ) : Type 0 where
  pub log : Log G q head tail
  pub origins : (i : ℕ) → i < tail → q.from i ≤ head

-- Within the turn of head.
pub record Turning (G : Graph) (q : Queue) (head tail L : ℕ) : Type 0 where
  pub log : Log G q head tail
  pub next : head < tail
  -- no origin is past head + 1
  pub origins : (i : ℕ) → i < tail → q.from i ≤ suc head
  -- what head leads to with a label below L is queued, and is not bad
  pub dealt : (x : ℕ) → G.Edge (q.node head) x → G.label x < L → Queued q tail x (suc head)
  pub good : (x : ℕ) → G.Edge (q.node head) x → G.label x < L → ¬ G.Bad x
  -- the last key is before every key of head + 1 with a label from L on
  pub last : (k : ℕ) → suc k ≡ tail → Before (q.from k) (G.label (q.node k)) (suc head) L
