-- Meeting a slot: what the function that meets one asks and says. proofs/MeetLaws.antt has that a turn of the search goes on by it. Assumes nothing.
use Rattle.std.specs.Prelude.{◌≡◌, List, ℕ, ◌+◌, ◌*◌, ◌≤◌, ◌<◌, length, drop}
use Rattle.search.specs.declared.queue.Queue.{Queue}
use Rattle.search.specs.Workspace.{origin_at, Kept, meeting}

-- slot x, of S, can be met with the origin o: the queue is in order, and the numbers fit the words
pub record MeetAsks (S : ℕ) (w : List ℕ) (tail x o : ℕ) : Type 0 where
  pub kept : Kept S w tail
  pub slot_in : x < S
  pub few : S < 4294967295
  pub origin_from : 0 < o
  pub origin_to : o ≤ S + 1

-- a slot that was met stays as it is; any other gets its origin and stands at the end of the queue. r slots are queued
-- afterwards.
pub record MeetSays (S : ℕ) (w : List ℕ) (tail x o : ℕ) (r : ℕ) (w' : List ℕ) : Type 0 where
  pub was_met : 0 < origin_at w x → (r ≡ tail) × (w' ≡ w)
  pub is_new : origin_at w x ≡ 0 → (r ≡ tail + 1) × (w' ≡ meeting S tail x o w)

-- the words past the first 2S and the length stay
pub record SameRest (S : ℕ) (w w' : List ℕ) : Type 0 where
  pub size : length w' ≡ length w
  pub rest : drop (2 * S) w' ≡ drop (2 * S) w

-- the queue of the same slots, in the same words
pub record SameQueue (q q' : Queue) : Type 0 where
  pub slots : q'.slots ≡ q.slots
  pub words : q'.work.ghost_name ≡ q.work.ghost_name
