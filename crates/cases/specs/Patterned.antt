-- The words that a buffer has before a call. docs/RULES.md, "Buffers". Assumes nothing.
use Rattle.std.specs.Prelude.{List, [], ◌∷◌, ℕ, zero, suc, Bool, drop, count_by}
use Rattle.std.specs.List.{zip}

-- n words, each a step above the one before it: first, plus first step, plus (plus first step) step and so on
unfoldable pub patterned : {T : Type 0} → (T → T → T) → T → T → ℕ → List T
patterned plus first step zero = []
patterned plus first step (suc n) = first ∷ patterned plus (plus first step) step n

-- how many of the words from index `from` on are as the pattern has them
unfoldable pub kept_from : {T : Type 0} → (T → T → Bool) → List T → List T → ℕ → ℕ
kept_from eq pattern words from = count_by (λ pair. eq pair.0 pair.1) (drop from (zip pattern words))
