-- What the loop keeps.
use Rattle.std.proofs.Common.{◌≡◌, List, ℕ, ◌+◌, ◌≤◌, length}
use Rattle.order.specs.Word.{Word}
use Rattle.search.proofs.ClimbLaws.{Climbing}
use Rattle.search.proofs.queue.Queue.path_length.Given as goal

pub record Counting (w : List ℕ) (S head i len : ℕ) : Type 0 where
  -- each letter that was passed brought the climb down
  pub down : i + len ≤ head
  -- `len` letters were passed
  pub passed : (label : ℕ → ℕ) → (done : Word) × Climbing label S w head i done × (length done ≡ len)

abbrev pub invariant-loop-head : goal.invariant-loop-head
invariant-loop-head l = Counting l.self.work.now l.self.slots l.head l.i l.len

abbrev pub decreases-loop-head : goal.decreases-loop-head
decreases-loop-head l = l.i
