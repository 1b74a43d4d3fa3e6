-- Laws of specs/Placed.antt. Assumes nothing.
use Rattle.std.specs.Prelude.{◌≡◌, List, [], ◌∷◌, ◌++◌, ℕ, zero, suc, ◌+◌, ◌-◌, ◌*◌, ◌≤◌, ◌<◌, length, get_or, take, drop, set}
use Rattle.std.proofs.Common.{sym, ap, ap₂, ◌∙◌, append_assoc, append-nil, add-zero, arith, length-append, length-drop, take-append-drop, drop_of_length-le, length-take-le, take_at, drop_at, drop-drop, take-suc}
use Rattle.std.proofs.lemmas.List.Edits.{sets-eq}
use Rattle.std.proofs.Math.Seq.{append_snoc}
use Rattle.std.proofs.lemmas.List.{set_at}
use Rattle.table.specs.Layout.{little_endian}
use Rattle.writing.proofs.Little.{length_little, little_append}
use Rattle.writing.specs.Placed.{placed}

-- a buffer keeps its length
pub length-placed : (i : ℕ) (xs w : List ℕ) → i + length xs ≤ length w → length (placed i xs w) ≡ length w
unfolding placed
length-placed i xs w h = simp (length-append, length-drop) (omega (arith, length-take-le i w (omega arith)))

-- nothing is written yet
pub placed_none : (i : ℕ) (w : List ℕ) → w ≡ placed i [] w
unfolding placed
placed_none i w = sym (ap₂ (λ (l : List ℕ) (k : ℕ). l ++ drop k w) (append-nil (take i w)) (add-zero i) ∙ take-append-drop i w)

-- what is written after it
pub placed_on : (i : ℕ) (xs ys w : List ℕ) (j : ℕ) → j ≡ i + length xs → i + length xs ≤ length w → placed j ys (placed i xs w) ≡ placed i (xs ++ ys) w
unfolding placed
placed_on i xs ys w j e h =
    let front = take i w ++ xs in
    let rest = drop (i + length xs) w in
    let l : length front ≡ j = length-append (take i w) xs ∙ ap (λ (k : ℕ). k + length xs) (length-take-le i w (omega arith)) ∙ sym e in
    let k : j + length ys ≡ i + length (xs ++ ys) = omega (arith, length-append xs ys) in
    let d : drop (j + length ys) (front ++ rest) ≡ drop (j + length ys) w =
    sym (drop-drop (length ys) j (front ++ rest))
    ∙ ap (drop (length ys)) (drop_at front rest j l ∙ ap (λ (k : ℕ). drop k w) (sym e))
    ∙ drop-drop (length ys) j w in
    ap₂ ◌++◌ (ap (λ (l : List ℕ). l ++ ys) (take_at front rest j l) ∙ append_assoc (take i w) xs ys) (d ∙ ap (λ (k : ℕ). drop k w) k)

-- a whole buffer
pub placed_all : (xs w : List ℕ) → length w ≤ length xs → placed 0 xs w ≡ xs
unfolding placed
placed_all xs w h = ap (λ (l : List ℕ). xs ++ l) (drop_of_length-le w {i = 0 + length xs} (omega arith)) ∙ append-nil xs

-- ---- a part of a buffer, from index a up to, not including, e, that is lent and comes back as ys

-- it has that many bytes
pub part_length : (a e : ℕ) (w : List ℕ) → a ≤ e → e ≤ length w → length (take (e - a) (drop a w)) ≡ e - a
part_length a e w h l = length-take-le (e - a) (drop a w) (omega (arith, length-drop a w))

-- the buffer then has ys there
pub part_placed : (a k : ℕ) (ys w : List ℕ) → length ys ≡ k → take a w ++ (ys ++ drop k (drop a w)) ≡ placed a ys w
unfolding placed
part_placed a k ys w l =
    sym (append_assoc (take a w) ys (drop k (drop a w))) ∙ ap (λ (r : List ℕ). take a w ++ ys ++ r) (drop-drop k a w ∙ ap (λ (k : ℕ). drop (a + k) w) (sym l))

-- and where xs were written before a, ys stand after them
pub part_on : (a e : ℕ) (xs ys w₀ : List ℕ) {w : List ℕ} → w ≡ placed 0 xs w₀ → length xs ≡ a → length ys ≡ e - a → a ≤ e → e ≤ length w₀
    → take a w ++ (ys ++ drop (e - a) (drop a w)) ≡ placed 0 (xs ++ ys) w₀
part_on a e xs ys w₀ {w} p la ly h l = part_placed a (e - a) ys w ly ∙ ap (placed a ys) p ∙ placed_on 0 xs ys w₀ a (omega arith) (omega arith)

-- one byte that was set
pub placed_one : (i a : ℕ) (w : List ℕ) → i < length w → set w i a ≡ placed i (a ∷ []) w
unfolding placed
placed_one i a w h = sets-eq (a ∷ []) w i (omega arith)

-- one byte that was set after others
pub byte_next : (p x : ℕ) (xs w₀ : List ℕ) {w : List ℕ} → w ≡ placed 0 xs w₀ → length xs ≡ p → p < length w₀ → set w p x ≡ placed 0 (xs ++ (x ∷ [])) w₀
byte_next p x xs w₀ e l h =
    ap (λ (w : List ℕ). set w p x) e
    ∙ placed_one p x (placed 0 xs w₀) (omega (arith, length-placed 0 xs w₀ (omega arith)))
    ∙ placed_on 0 xs (x ∷ []) w₀ p (omega arith) (omega arith)

-- four bytes
pub placed_four : (i a b c d : ℕ) (w : List ℕ) → i + 4 ≤ length w → set (set (set (set w i a) (i + 1) b) (i + 2) c) (i + 3) d ≡ placed i (a ∷ b ∷ c ∷ d ∷ []) w
unfolding placed
placed_four i a b c d w h =
    let one : i + 1 ≡ suc i = omega arith in
    let two : i + 2 ≡ suc (suc i) = omega arith in
    let three : i + 3 ≡ suc (suc (suc i)) = omega arith in
    rw (one, two, three) (sets-eq (a ∷ b ∷ c ∷ d ∷ []) w i h)

-- ---- numbers as bytes

-- numbers that are written after others
pub little_on : (i : ℕ) (xs ys w : List ℕ) (j : ℕ) → j ≡ i + 4 * length xs → i + 4 * length xs ≤ length w
    → placed j (little_endian ys) (placed i (little_endian xs) w) ≡ placed i (little_endian (xs ++ ys)) w
little_on i xs ys w j e h =
    let l = length_little xs in
    placed_on i (little_endian xs) (little_endian ys) w j (omega arith) (omega arith) ∙ ap (λ (l : List ℕ). placed i l w) (sym (little_append xs ys))

-- the same by the buffers' equations: w holds the numbers xs from index i on, and the numbers ys were written after them
pub little_next : (i j : ℕ) (xs ys w₀ : List ℕ) {w w' : List ℕ} → w ≡ placed i (little_endian xs) w₀ → w' ≡ placed j (little_endian ys) w → j ≡ i + 4 * length xs
    → i + 4 * length xs ≤ length w₀ → w' ≡ placed i (little_endian (xs ++ ys)) w₀
little_next i j xs ys w₀ p q e h = q ∙ ap (placed j (little_endian ys)) p ∙ little_on i xs ys w₀ j e h

-- they keep the length, and fill a buffer that is as long
pub little_length : (i : ℕ) (xs w : List ℕ) → i + 4 * length xs ≤ length w → length (placed i (little_endian xs) w) ≡ length w
little_length i xs w h = length-placed i (little_endian xs) w (omega (arith, length_little xs))

pub little_all : (xs w : List ℕ) → length w ≤ 4 * length xs → placed 0 (little_endian xs) w ≡ little_endian xs
little_all xs w h = placed_all (little_endian xs) w (omega (arith, length_little xs))

-- ---- downwards

-- a buffer that is written downwards: from left on it holds t, and the next word goes before that
pub write_down : (r t : List ℕ) (left a : ℕ) → 0 < left → left ≤ length r → set (take left r ++ t) (left - 1) a ≡ take (left - 1) r ++ a ∷ t
write_down r t zero a p h = absurd (omega arith)
write_down r t (suc j) a p h =
    let e : suc j - 1 ≡ j = omega arith in
    rw (e, take-suc r j 0 h, append_snoc (take j r) (get_or r j 0) t) (set_at (take j r) (get_or r j 0) t a j (length-take-le j r (omega arith)))
