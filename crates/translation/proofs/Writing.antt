-- The three sections as the writers write them, front to back: what holds when slot p comes (in a row: target i), how that begins, how it goes on and
-- what it says at the end. By any flag R. Assumes nothing.
use Rattle.std.specs.Prelude.{◌≡◌, refl, Bool, true, false, cond, ℕ, zero, suc, ◌+◌, ◌-◌, ◌*◌, ◌≤◌, ◌<◌, set}
use Rattle.std.proofs.Common.{sym, ◌∙◌, zero-le, add-one, arith, length-set}
use Rattle.std.proofs.Math.Path.{ap}
use mathlib.Core.List.{List, [], ◌∷◌, ◌++◌, append_assoc, append-nil}
use Rattle.std.proofs.Math.ListN.{length, length-append}
use Rattle.recorder.specs.Flag.{Flag}
use Rattle.recorder.specs.Recorder.{unsaved}
use Rattle.recorder.specs.SlotGraph.{at}
use Rattle.table.specs.BlockOf.{block_of}
use Rattle.table.specs.Layout.{little_endian, target}
use Rattle.table.specs.Recording.{next_of, from_of, to_of}
use Rattle.writing.specs.File.{listed, join_to}
use Rattle.writing.proofs.Listed.{length-listed, listed_next}
use Rattle.writing.specs.Placed.{placed}
use Rattle.writing.proofs.Placed.{placed_none, placed_all, byte_next, little_next, little_length, little_all}
use Rattle.translation.specs.File.{along_of, along_from, row_of, targets_to, start_of_row, slot_mark}
use Rattle.translation.proofs.Counts.{starts_step, starts_rise}

-- ---- the marks

pub record Marking (R : Flag) (b w₀ : List ℕ) (S : ℕ) (w : List ℕ) (p : ℕ) : Type 0 where
  pub to : p ≤ S
  pub room : length w₀ ≡ S
  -- the marks of the slots below p are written
  pub is : w ≡ placed 0 (listed (slot_mark R b) p) w₀
  pub same_length : length w ≡ length w₀

pub marking_begins : (R : Flag) (b w₀ : List ℕ) (S : ℕ) → length w₀ ≡ S → Marking R b w₀ S w₀ 0
unfolding listed
marking_begins R b w₀ S e = record { to = zero-le; room = e; is = placed_none 0 w₀; same_length = refl }

module _ {R : Flag} {b w₀ : List ℕ} {S : ℕ} {w : List ℕ} {p : ℕ} (g : Marking R b w₀ S w p) where
  pub marking_on : {x : ℕ} → p < S → x ≡ slot_mark R b p → Marking R b w₀ S (set w p x) (p + 1)
  marking_on {x} h e = record {
    to = omega arith;
    room = g.room;
    is = byte_next p x (listed (slot_mark R b) p) w₀ g.is (length-listed (slot_mark R b) p) (omega (arith, g.room)) ∙ ap (λ (l : List ℕ). placed 0 l w₀) (listed_next (slot_mark R b) p x e);
    same_length = length-set w p x ∙ g.same_length;
  }

  pub marking_ends : S ≤ p → w ≡ listed (slot_mark R b) S
  marking_ends h =
      let e : p ≡ S = omega (arith, g.to) in
      g.is ∙ placed_all (listed (slot_mark R b) p) w₀ (omega (arith, g.room, length-listed (slot_mark R b) p)) ∙ ap (listed (slot_mark R b)) e

-- ---- the row starts

pub record Starting (R : Flag) (b w₀ : List ℕ) (S : ℕ) (w : List ℕ) (sum p : ℕ) : Type 0 where
  pub to : p ≤ S
  pub room : length w₀ ≡ 4 * suc S
  -- the row of slot p starts at sum
  pub sum_is : sum ≡ start_of_row R b p
  -- the row starts of the slots below p are written
  pub is : w ≡ placed 0 (little_endian (listed (start_of_row R b) p)) w₀
  pub same_length : length w ≡ length w₀

pub starting_begins : (R : Flag) (b w₀ : List ℕ) (S : ℕ) → length w₀ ≡ 4 * suc S → Starting R b w₀ S w₀ 0 0
unfolding listed join_to
starting_begins R b w₀ S e = record { to = zero-le; room = e; sum_is = refl; is = placed_none 0 w₀; same_length = refl }

module _ {R : Flag} {b w₀ : List ℕ} {S : ℕ} {w : List ℕ} {sum p : ℕ} (g : Starting R b w₀ S w sum p) {w' : List ℕ} (e : w' ≡ placed (4 * p) (little_endian (sum ∷ [])) w) where
  start_put : w' ≡ placed 0 (little_endian (listed (start_of_row R b) (p + 1))) w₀
  start_put =
      little_next 0 (4 * p) (listed (start_of_row R b) p) (sum ∷ []) w₀ g.is e (omega (arith, length-listed (start_of_row R b) p)) (omega (arith, g.to, g.room, length-listed (start_of_row R b) p))
      ∙ ap (λ (l : List ℕ). placed 0 (little_endian l) w₀) (listed_next (start_of_row R b) p sum g.sum_is)

  pub starting_on : {r : ℕ} → p < S → r ≡ length (row_of R b p) → Starting R b w₀ S w' (sum + r) (p + 1)
  starting_on {r} h d = record {
    to = omega arith;
    room = g.room;
    sum_is = omega (arith, g.sum_is, starts_step R b p, ap (start_of_row R b) (add-one p));
    is = start_put;
    same_length = ap length start_put ∙ little_length 0 (listed (start_of_row R b) (p + 1)) w₀ (omega (arith, g.room, length-listed (start_of_row R b) (p + 1)));
  }

pub starting_ends : {R : Flag} {b w₀ : List ℕ} {S : ℕ} {w : List ℕ} {sum p : ℕ} → Starting R b w₀ S w sum p → {w' : List ℕ} → w' ≡ placed (4 * S) (little_endian (sum ∷ [])) w → S ≤ p
    → w' ≡ little_endian (listed (start_of_row R b) (suc S))
starting_ends {R} {b} {w₀} {S} {w} {sum} {p} g e h =
    let d : S ≡ p = omega (arith, g.to) in
    let d' : p + 1 ≡ suc S = omega arith in
    start_put g (e ∙ ap (λ (k : ℕ). placed (4 * k) (little_endian (sum ∷ [])) w) d)
    ∙ little_all (listed (start_of_row R b) (p + 1)) w₀ (omega (arith, g.room, length-listed (start_of_row R b) (p + 1)))
    ∙ ap (λ (k : ℕ). little_endian (listed (start_of_row R b) k)) d'

-- ---- one row

-- along k targets and then along j more
along_more : (R : Flag) (b : List ℕ) (p k i j n i' : ℕ) → n ≡ k + j → i' ≡ i + k → along_from R b p i n ≡ along_from R b p i k ++ along_from R b p i' j
unfolding along_from
along_more R b p zero i j n i' e d = let e' : n ≡ j = omega arith in let d' : i' ≡ i = omega arith in rw (e', d')
along_more R b p (suc k) i j zero i' e d = absurd (omega arith)
along_more R b p (suc k) i j (suc n) i' e d =
    ap (λ (l : List ℕ). along_of R b p (target b i) ++ l) (along_more R b p k (suc i) j n i' (omega arith) (omega arith))
    ∙ sym (append_assoc (along_of R b p (target b i)) (along_from R b p (suc i) k) (along_from R b p i' j))

-- the row of slot p up to target i
abbrev pub row_to : Flag → List ℕ → ℕ → ℕ → List ℕ
row_to R b p i = along_from R b p (from_of b p) (i - from_of b p)

module _ (R : Flag) (b : List ℕ) (p i : ℕ) (h : from_of b p ≤ i) where
  -- is no longer than the row
  row_to_most : i ≤ to_of b p → length (row_to R b p i) ≤ length (row_of R b p)
  unfolding row_of
  row_to_most l =
      let e = along_more R b p (i - from_of b p) (from_of b p) (to_of b p - i) (to_of b p - from_of b p) i (omega arith) (omega arith) in
      omega (arith, ap length e, length-append (row_to R b p i) (along_from R b p i (to_of b p - i)))

  -- and one target more
  row_to_next : row_to R b p (i + 1) ≡ row_to R b p i ++ along_of R b p (target b i)
  unfolding along_from
  row_to_next =
      along_more R b p (i - from_of b p) (from_of b p) 1 (i + 1 - from_of b p) i (omega arith) (omega arith)
      ∙ ap (λ (l : List ℕ). row_to R b p i ++ l) (append-nil (along_of R b p (target b i)))

pub record Rowing (R : Flag) (b w₀ : List ℕ) (p at : ℕ) (w : List ℕ) (i end : ℕ) : Type 0 where
  pub from : from_of b p ≤ i
  pub to : i ≤ to_of b p
  pub room : at + 4 * length (row_of R b p) ≤ length w₀
  -- what slot p leads to along the targets before i is written
  pub end_is : end ≡ at + 4 * length (row_to R b p i)
  pub is : w ≡ placed at (little_endian (row_to R b p i)) w₀
  pub same_length : length w ≡ length w₀

pub rowing_begins : (R : Flag) (b w₀ : List ℕ) (p at : ℕ) {i : ℕ} → i ≡ from_of b p → from_of b p ≤ to_of b p → at + 4 * length (row_of R b p) ≤ length w₀ → Rowing R b w₀ p at w₀ i at
unfolding along_from
rowing_begins R b w₀ p at {i} e h l =
    let z : i - from_of b p ≡ 0 = omega arith in
    record {
      from = omega arith;
      to = omega arith;
      room = l;
      end_is = rw z (omega arith);
      is = rw z (placed_none at w₀);
      same_length = refl;
    }

-- x, and y where both are wanted
abbrev pub one_or_both : Bool → ℕ → ℕ → List ℕ
one_or_both both x y = x ∷ cond both (y ∷ []) []

module _ {both : Bool} (i x y : ℕ) (w : List ℕ) {w' : List ℕ} (e : w' ≡ placed i (little_endian (x ∷ [])) w) where
  pub one_put : both ≡ false → (i + 4 ≡ i + 4 * length (one_or_both both x y)) × (w' ≡ placed i (little_endian (one_or_both both x y)) w)
  one_put u = rw u (omega arith, e)

  module _ (u : both ≡ true) (h : i + 4 * length (one_or_both both x y) ≤ length w) where
    pub both_room : i + 8 ≤ length w'
    both_room = let l = rw u at h in rw e (omega (arith, little_length i (x ∷ []) w (omega arith)))

    pub both_put : {w'' : List ℕ} → w'' ≡ placed (i + 4) (little_endian (y ∷ [])) w'
        → (i + 8 ≡ i + 4 * length (one_or_both both x y)) × (w'' ≡ placed i (little_endian (one_or_both both x y)) w)
    both_put e' = let l = rw u at h in rw u (omega arith, little_next i (i + 4) (x ∷ []) (y ∷ []) w e e' (omega arith) (omega arith))

-- what the code writes for target i
pub along_is : (R : Flag) (b : List ℕ) (p s' : ℕ) {both : Bool} {x y : ℕ} → both ≡ unsaved (block_of b) (at (block_of b) p).t → x ≡ next_of R b p s' true → y ≡ next_of R b p s' false
    → one_or_both both x y ≡ along_of R b p s'
along_is R b p s' e d d' = rw (e, d, d')

module _ {R : Flag} {b w₀ : List ℕ} {p at : ℕ} {w : List ℕ} {i end : ℕ} (g : Rowing R b w₀ p at w i end) where
  module _ (h : i < to_of b p) {xs : List ℕ} (e : xs ≡ along_of R b p (target b i)) where
    next_is : row_to R b p (i + 1) ≡ row_to R b p i ++ xs
    next_is = row_to_next R b p i g.from ∙ ap (λ (l : List ℕ). row_to R b p i ++ l) (sym e)

    next_length : length (row_to R b p (i + 1)) ≡ length (row_to R b p i) + length xs
    next_length = ap length next_is ∙ length-append (row_to R b p i) xs

    next_room : at + 4 * length (row_to R b p (i + 1)) ≤ length w₀
    next_room = omega (arith, g.room, g.from, row_to_most R b p (i + 1) (omega (arith, g.from)) (omega arith))

    -- there is room for it
    pub rowing_room : end + 4 * length xs ≤ length w
    rowing_room = omega (arith, next_room, next_length, g.end_is, g.same_length)

    pub rowing_on : {w' : List ℕ} {r : ℕ} → w' ≡ placed end (little_endian xs) w → r ≡ end + 4 * length xs → Rowing R b w₀ p at w' (i + 1) r
    rowing_on {w'} {r} d q =
        let is : w' ≡ placed at (little_endian (row_to R b p (i + 1))) w₀ =
        little_next at end (row_to R b p i) xs w₀ g.is d g.end_is (omega (arith, next_room, next_length))
        ∙ ap (λ (l : List ℕ). placed at (little_endian l) w₀) (sym next_is) in
        record {
          from = omega (arith, g.from);
          to = omega arith;
          room = g.room;
          end_is = omega (arith, g.end_is, next_length);
          is = is;
          same_length = ap length is ∙ little_length at (row_to R b p (i + 1)) w₀ next_room;
        }

  pub rowing_ends : to_of b p ≤ i → (end ≡ at + 4 * length (row_of R b p)) × (w ≡ placed at (little_endian (row_of R b p)) w₀)
  unfolding row_of
  rowing_ends h = let e : i ≡ to_of b p = omega (arith, g.to) in rw (← e) (g.end_is, g.is)

-- ---- all rows

pub record Targeting (R : Flag) (b w₀ : List ℕ) (S : ℕ) (w : List ℕ) (at p : ℕ) : Type 0 where
  pub to : p ≤ S
  pub room : length w₀ ≡ 4 * start_of_row R b S
  -- the rows of the slots below p are written
  pub at_is : at ≡ 4 * start_of_row R b p
  pub is : w ≡ placed 0 (little_endian (targets_to R b p)) w₀
  pub same_length : length w ≡ length w₀

pub targeting_begins : (R : Flag) (b w₀ : List ℕ) (S : ℕ) → length w₀ ≡ 4 * start_of_row R b S → Targeting R b w₀ S w₀ 0 0
unfolding join_to
targeting_begins R b w₀ S e = record { to = zero-le; room = e; at_is = refl; is = placed_none 0 w₀; same_length = refl }

module _ {R : Flag} {b w₀ : List ℕ} {S : ℕ} {w : List ℕ} {at p : ℕ} (g : Targeting R b w₀ S w at p) where
  module _ (h : p < S) where
    next_most : 4 * start_of_row R b (p + 1) ≤ length w₀
    next_most = omega (arith, g.room, starts_rise R b (p + 1) S (omega arith))

    one_more : start_of_row R b (p + 1) ≡ start_of_row R b p + length (row_of R b p)
    one_more = ap (start_of_row R b) (add-one p) ∙ starts_step R b p

    -- there is room for the row of slot p
    pub targeting_room : at + 4 * length (row_of R b p) ≤ length w
    targeting_room = omega (arith, next_most, one_more, g.at_is, g.same_length)

    pub targeting_on : {w' : List ℕ} {r : ℕ} → r ≡ at + 4 * length (row_of R b p) → w' ≡ placed at (little_endian (row_of R b p)) w → Targeting R b w₀ S w' r (p + 1)
    unfolding join_to
    targeting_on {w'} {r} q d =
        let is : w' ≡ placed 0 (little_endian (targets_to R b (p + 1))) w₀ =
        little_next 0 at (targets_to R b p) (row_of R b p) w₀ g.is d (omega (arith, g.at_is)) (omega (arith, next_most, one_more))
        ∙ ap (λ (k : ℕ). placed 0 (little_endian (targets_to R b k)) w₀) (sym (add-one p)) in
        record {
          to = omega arith;
          room = g.room;
          at_is = omega (arith, g.at_is, one_more);
          is = is;
          same_length = ap length is ∙ little_length 0 (targets_to R b (p + 1)) w₀ (omega (arith, next_most));
        }

  pub targeting_ends : S ≤ p → w ≡ little_endian (targets_to R b S)
  targeting_ends h =
      let e : p ≡ S = omega (arith, g.to) in
      g.is ∙ ap (λ (k : ℕ). placed 0 (little_endian (targets_to R b k)) w₀) e ∙ little_all (targets_to R b S) w₀ (omega (arith, g.room))
