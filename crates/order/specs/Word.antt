-- Words, and the shortlex order on them: the shorter word first, and of two words of one length the one that a dictionary has first.
-- docs/RULES.md, "Lasso and choice": "the smallest k", then "least in dictionary order". proofs/Word.antt has the laws. Assumes nothing.
use Rattle.std.specs.Prelude.{◌≡◌, List, [], ◌∷◌, ◌++◌, ℕ, ◌<◌, length}

-- a word: letters are numbers, in the order in which they are read
abbrev pub Word : Type 0
Word = List ℕ

infixl 66 ◌▸◌
infix 50 ◌≺◌ ◌⊏◌ ◌⊑◌
-- w with one more letter at its end
unfoldable pub ◌▸◌ : Word → ℕ → Word
w ▸ a = w ++ (a ∷ [])

-- w and v differ at some place, and at the first such place w has the smaller letter
pub data ◌≺◌ : Word → Word → Type 0 where
  here : {a b : ℕ} {w v : Word} → a < b → a ∷ w ≺ b ∷ v
  there : {a b : ℕ} {w v : Word} → a ≡ b → w ≺ v → a ∷ w ≺ b ∷ v

-- w comes before v in shortlex
pub data ◌⊏◌ (w v : Word) : Type 0 where
  shorter : length w < length v → w ⊏ v
  sooner : length w ≡ length v → w ≺ v → w ⊏ v

-- w comes before v in shortlex, or is v
pub data ◌⊑◌ (w v : Word) : Type 0 where
  less : w ⊏ v → w ⊑ v
  same : w ≡ v → w ⊑ v

-- The dictionary's order

-- said without recursion: after some first letters that they share, w goes on with a letter below v's
pub record Differ (w v : Word) : Type 0 where
  pub shared : Word
  pub a : ℕ
  pub b : ℕ
  pub restʷ : Word
  pub restᵛ : Word
  pub below : a < b
  pub first : w ≡ shared ++ (a ∷ restʷ)
  pub second : v ≡ shared ++ (b ∷ restᵛ)
