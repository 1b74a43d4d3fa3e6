-- Following the origins from an index of the queue back to a start, in the words of the workspace. Each record that is passed is a letter of the path
-- to that index, the last one first. This is what the climb asks and what it finds; proofs/ClimbLaws.antt has the laws of one turn. Assumes nothing.
use Rattle.std.specs.Prelude.{◌≡◌, cond, List, eqb}
use Prim.Native.Nat.{ℕ, suc, ◌+◌, ◌*◌, ◌≤◌, ◌<◌}
use Rattle.std.proofs.Math.ListN.{length}
use Rattle.order.specs.Word.{Word}
use Rattle.order.specs.Graph.{Graph}
use Rattle.order.specs.Log.{path}
use Rattle.recorder.specs.Slots.{record_of_slot}
use Rattle.search.specs.Workspace.{origin_at, slot_at, queue_of}

-- ---- what the climb asks

-- Of the indices below tail, head among them: their slots are slots that were met, and an origin that is not a start is a lower index.
pub record Climbs (w : List ℕ) (S head : ℕ) : Type 0 where
  pub tail : ℕ
  pub head_in : head < tail
  pub tail_to : tail ≤ S
  pub room : 2 * S ≤ length w
  pub below : (i : ℕ) → i < tail → slot_at S w i < S
  pub met : (i : ℕ) → i < tail → 0 < origin_at w (slot_at S w i)
  pub parent : (i : ℕ) → i < tail → (p : ℕ) → origin_at w (slot_at S w i) ≡ suc (suc p) → p < i

-- ---- what it finds

-- a graph of which just the labels are told
abbrev pub labelled : (ℕ → ℕ) → Graph
labelled label = record { Start = λ x. Unit {0}; Edge = λ x y. Unit {0}; Bad = λ x. Unit {0}; label = label }

abbrev pub path_by : (ℕ → ℕ) → ℕ → List ℕ → ℕ → Word
path_by label S w i = path (labelled label) (queue_of S w) i

-- the label of slot x, with n states and m sets: 2·s, plus 1 while nothing is saved
abbrev pub label_of : ℕ → ℕ → ℕ → ℕ
label_of n m x = 2 * (record_of_slot n m x).s + cond (eqb (record_of_slot n m x).t n) 1 0
