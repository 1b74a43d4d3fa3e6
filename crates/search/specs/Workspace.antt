-- What the workspace holds while the search runs. docs/RULES.md, "Refusal list": 2S words. The first S are the origins of the slots, by slot: 0 for
-- one that was not met, 1 for a start, p + 2 where index p led to it. The next S are the queue: the slots met, in order. proofs/Workspace.antt has
-- the law of meeting a slot. Assumes nothing.
use Rattle.std.specs.Prelude.{◌≡◌, cond, List, ℕ, zero, suc, ◌+◌, ◌-◌, ◌*◌, ◌≤◌, ◌<◌, eqb, length, get_or, set}
use Rattle.order.specs.Log.{Queue}

-- the origin of slot x, as it is written: 0 where x was not met
abbrev pub origin_at : List ℕ → ℕ → ℕ
origin_at w x = get_or w x 0

-- the slot at index i of the queue, in a workspace for S slots
abbrev pub slot_at : ℕ → List ℕ → ℕ → ℕ
slot_at S w i = get_or w (S + i) 0

-- the workspace as the log's queue, whose origins are one less
abbrev pub queue_of : ℕ → List ℕ → Queue
queue_of S w = record { node = slot_at S w; from = λ i. origin_at w (slot_at S w i) - 1 }

-- how many of the slots below k were met
unfoldable pub met_below : ℕ → List ℕ → ℕ
met_below zero w = 0
met_below (suc k) w = met_below k w + cond (eqb (origin_at w k) 0) 0 1

-- tail slots are queued: they are slots, they were met, and no others were
pub record Kept (S : ℕ) (w : List ℕ) (tail : ℕ) : Type 0 where
  pub room : 2 * S ≤ length w
  pub below : (i : ℕ) → i < tail → slot_at S w i < S
  pub met : (i : ℕ) → i < tail → 0 < origin_at w (slot_at S w i)
  pub only : (x : ℕ) → x < S → 0 < origin_at w x → (i : ℕ) × (i < tail) × (slot_at S w i ≡ x)
  -- so there are as many as were met
  pub count : met_below S w ≡ tail

-- slot x is met, with the origin o, and queued at tail
abbrev pub meeting : ℕ → ℕ → ℕ → ℕ → List ℕ → List ℕ
meeting S tail x o w = set (set w x o) (S + tail) x
