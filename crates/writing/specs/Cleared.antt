-- A lent buffer whose first k words are set to 0, and the rest unchanged. docs/RULES.md, "Buffers": "After an accepted search the first 2S workspace
-- words are zero and the rest unchanged". proofs/Cleared.antt has the laws. Assumes nothing.
use Rattle.std.specs.Prelude.{List, ◌++◌, ℕ, drop, replicate}

-- w with its first k words 0
abbrev pub cleared : ℕ → List ℕ → List ℕ
cleared k w = replicate k 0 ++ drop k w
