-- Numbers as bytes: how many there are, and that they are read back. docs/RULES.md, "The table file": little-endian 32-bit numbers. Assumes nothing.
use Rattle.std.specs.Prelude.{◌≡◌, refl, List, [], ◌∷◌, ◌++◌, ℕ, zero, suc, ◌+◌, ◌*◌, ◌/◌, ◌%◌, ◌<◌, length, get_or}
use Rattle.std.proofs.Common.{sym, ap, ◌∙◌, add_assoc, arith, get_or-append-add}
use Rattle.std.proofs.Math.Nat.{div-div-eq-div-mul}
use Rattle.table.specs.Layout.{word_at, little_endian}

-- four bytes a number
pub length_little : (xs : List ℕ) → length (little_endian xs) ≡ 4 * length xs
length_little [] = refl
length_little (x ∷ xs) = omega (arith, length_little xs)

-- numbers after numbers
pub little_append : (xs ys : List ℕ) → little_endian (xs ++ ys) ≡ little_endian xs ++ little_endian ys
little_append [] ys = refl
little_append (x ∷ xs) ys = ap (λ (l : List ℕ). x % 256 ∷ x / 256 % 256 ∷ x / 65536 % 256 ∷ x / 16777216 % 256 ∷ l) (little_append xs ys)

-- ---- reading back

-- a number by its lowest byte and the rest
low_byte : (x : ℕ) → x % 256 + 256 * (x / 256) ≡ x
low_byte x = omega arith

-- a number from its four bytes
from_bytes : (x : ℕ) → x < 4294967296 → x % 256 + 256 * (x / 256 % 256) + 65536 * (x / 65536 % 256) + 16777216 * (x / 16777216 % 256) ≡ x
from_bytes x h =
    let two : x / 256 / 256 ≡ x / 65536 = div-div-eq-div-mul x 256 256 in
    let three : x / 65536 / 256 ≡ x / 16777216 = div-div-eq-div-mul x 65536 256 in
    let top : x / 16777216 < 256 = omega arith in
    sum _ _ _ _ _ _ _ _ (low_byte x) (ap (λ (q : ℕ). x / 256 % 256 + 256 * q) (sym two) ∙ low_byte (x / 256)) (ap (λ (q : ℕ). x / 65536 % 256 + 256 * q) (sym three) ∙ low_byte (x / 65536)) (small _ top)
  where
    small : (y : ℕ) → y < 256 → y % 256 ≡ y
    small y k = omega arith

    sum : (x x₁ x₂ x₃ a b c d : ℕ) → a + 256 * x₁ ≡ x → b + 256 * x₂ ≡ x₁ → c + 256 * x₃ ≡ x₂ → d ≡ x₃ → a + 256 * b + 65536 * c + 16777216 * d ≡ x
    sum x x₁ x₂ x₃ a b c d p q r s = omega arith

-- whatever comes before only shifts the place
pub word_after : (before l : List ℕ) (i : ℕ) → word_at (before ++ l) (length before + i) ≡ word_at l i
unfolding word_at
word_after before l i = simp (get_or-append-add, add_assoc)

-- what is read at place i of numbers that were written is number i, whatever follows
pub word_little : (xs rest : List ℕ) (i : ℕ) → i < length xs → get_or xs i 0 < 4294967296 → word_at (little_endian xs ++ rest) (4 * i) ≡ get_or xs i 0
unfolding word_at
word_little [] rest i l h = absurd (omega arith)
word_little (x ∷ xs) rest zero l h = from_bytes x h
word_little (x ∷ xs) rest (suc i) l h =
    let e : 4 * suc i ≡ 4 + 4 * i = omega arith in
    ap (word_at (little_endian (x ∷ xs) ++ rest)) e
    ∙ word_after (x % 256 ∷ x / 256 % 256 ∷ x / 65536 % 256 ∷ x / 16777216 % 256 ∷ []) (little_endian xs ++ rest) (4 * i)
    ∙ word_little xs rest i (omega arith) h
