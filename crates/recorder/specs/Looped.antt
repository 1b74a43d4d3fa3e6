-- When a run with its choice has closed a lasso. docs/RULES.md, "The recorder", as the third demand reads it. Definitions only. Assumes nothing.
use Rattle.std.specs.Prelude.{◌≡◌, List, ℕ, suc, take}
use Rattle.recorder.specs.Lasso.{state}
use Rattle.recorder.specs.Recorder.{Choice, none, place}

-- of the k + 2 states s0..s(k+1) of a run, a length that its users ask for: a state sl was recorded, s(k+1) is that state again, and s0..sk, looped at
-- l, is one of the lassos that L says
abbrev pub Looped : (List ℕ → ℕ → Type 0) → List ℕ → ℕ → Choice → Type 0
Looped L ss k none = ⊥
Looped L ss k (place l) = (state ss (suc k) ≡ state ss l) × L (take (suc k) ss) l
