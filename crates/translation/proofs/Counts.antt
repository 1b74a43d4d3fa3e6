-- The sizes of the translated file. docs/RULES.md, "Translated table": each slot's row has, for each edge of its state, one target where something is
-- saved and two where nothing is, so that all rows together have E = e(n+2)·2^(m+1) targets and the file has 32 + 5S + 4E bytes. The rows are
-- counted in three inductions: over the flags and bits of one state and one saved t, over the t, over the states. Assumes nothing.
use Rattle.std.specs.Prelude.{◌≡◌, refl, Bool, true, false, List, ℕ, zero, suc, ◌+◌, ◌-◌, ◌*◌, ◌/◌, ◌%◌, ◌^◌, ◌≤◌, ◌<◌, eqb, length}
use Rattle.std.proofs.Math.Path.{ap}
use Rattle.std.proofs.Common.{◌∙◌, arith, length-append, shr-shr, eq-eqb, ne_eqb}
use Rattle.std.proofs.Math.Arith.{digits_div, digits_mod}
use Rattle.quote.specs.Sizes.{edge_count, translated_length}
use Rattle.quote.proofs.Sizes.{steps_of}
use Rattle.recorder.specs.Flag.{Flag}
use Rattle.recorder.specs.Slots.{slot_count, record_of_slot}
use Rattle.recorder.specs.SlotGraph.{at}
use Rattle.table.specs.BlockOf.{block_of}
use Rattle.table.specs.Layout.{states_of, edges_of, sets_of, row_start, target}
use Rattle.table.specs.Recording.{slots_of, from_of, to_of}
use Rattle.table.specs.WellFormed.{WellFormed}
use Rattle.writing.specs.File.{join_to}
use Rattle.writing.proofs.Joined.{join_step, join_rise}
use Rattle.writing.proofs.FileRead.{length_with}
use Rattle.translation.specs.File.{along_of, along_from, row_of, start_of_row, slot_mark, file_of}

-- ---- one row

-- along one edge: as many targets as the quote counts steps
length_along : (R : Flag) (b : List ℕ) (p s' : ℕ) → length (along_of R b p s') ≡ steps_of (block_of b).n (at (block_of b) p).t
length_along R b p s' = go (eqb (at (block_of b) p).t (block_of b).n) refl
  where
    go : (u : Bool) → eqb (at (block_of b) p).t (block_of b).n ≡ u → length (along_of R b p s') ≡ steps_of (block_of b).n (at (block_of b) p).t
    go true e = rw e
    go false e = rw e

-- along k edges
length_along_from : (R : Flag) (b : List ℕ) (p i k : ℕ) → length (along_from R b p i k) ≡ k * steps_of (block_of b).n (at (block_of b) p).t
unfolding along_from
length_along_from R b p i zero = omega arith
length_along_from R b p i (suc k) = rw (length-append, length_along R b p (target b i), length_along_from R b p (suc i) k) (omega arith)

-- a row has that many for each edge of the slot's state
pub length_row : (R : Flag) (b : List ℕ) (p : ℕ) → length (row_of R b p) ≡ (to_of b p - from_of b p) * steps_of (block_of b).n (at (block_of b) p).t
unfolding row_of
length_row R b p = length_along_from R b p (from_of b p) (to_of b p - from_of b p)

-- the next row starts where this one ends
pub starts_step : (R : Flag) (b : List ℕ) (p : ℕ) → start_of_row R b (suc p) ≡ start_of_row R b p + length (row_of R b p)
starts_step R b p = join_step (row_of R b) p

-- so the starts never fall
pub starts_rise : (R : Flag) (b : List ℕ) (p q : ℕ) → p ≤ q → start_of_row R b p ≤ start_of_row R b q
starts_rise R b p q h = join_rise (row_of R b) p q h

-- ---- all rows

-- the slots of one state s and one saved t follow each other, one for each flag and bits
module _ (n m s t r : ℕ) (ht : t ≤ n) (hr : r < 2 ^ (m + 1)) where
  -- without flag and bits, their numbers are one
  within : ((s * (n + 1) + t) * 2 ^ (m + 1) + r) / 2 ^ m / 2 ≡ s * (n + 1) + t
  within = shr-shr ((s * (n + 1) + t) * 2 ^ (m + 1) + r) m 1 ∙ digits_div (s * (n + 1) + t) hr

  -- so their records have the state s, and saved t
  state_there : (record_of_slot n m ((s * (n + 1) + t) * 2 ^ (m + 1) + r)).s ≡ s
  unfolding record_of_slot
  state_there = ap (λ (x : ℕ). x / (n + 1)) within ∙ digits_div s (omega arith)

  saved_there : (record_of_slot n m ((s * (n + 1) + t) * 2 ^ (m + 1) + r)).t ≡ t
  unfolding record_of_slot
  saved_there = ap (λ (x : ℕ). x % (n + 1)) within ∙ digits_mod s (omega arith)

-- the first of those slots
abbrev first_of : List ℕ → ℕ → ℕ → ℕ
first_of b s t = (s * (states_of b + 1) + t) * 2 ^ (sets_of b + 1)

-- how many edges leave s
abbrev edges_from : List ℕ → ℕ → ℕ
edges_from b s = row_start b (suc s) - row_start b s

-- the row of each of those slots
length-there : (R : Flag) (b : List ℕ) (s t r : ℕ) → t ≤ states_of b → r < 2 ^ (sets_of b + 1)
    → length (row_of R b (first_of b s t + r)) ≡ edges_from b s * steps_of (states_of b) t
unfolding block_of
length-there R b s t r ht hr =
    length_row R b (first_of b s t + r) ∙ rw (state_there (states_of b) (sets_of b) s t r ht hr, saved_there (states_of b) (sets_of b) s t r ht hr)

-- over the flags and bits: r of them passed
starts_bits : (R : Flag) (b : List ℕ) (s t r : ℕ) → t ≤ states_of b → r ≤ 2 ^ (sets_of b + 1)
    → start_of_row R b (first_of b s t + r) ≡ start_of_row R b (first_of b s t) + r * (edges_from b s * steps_of (states_of b) t)
starts_bits R b s t zero ht hr = let h : first_of b s t + 0 ≡ first_of b s t = omega arith in rw h (omega arith)
starts_bits R b s t (suc r) ht hr =
    let h : first_of b s t + suc r ≡ suc (first_of b s t + r) = omega arith in
    rw h (omega (arith, starts_step R b (first_of b s t + r), length-there R b s t r ht hr, starts_bits R b s t r ht (omega arith)))

-- from one saved t to the next
starts_next : (R : Flag) (b : List ℕ) (s t : ℕ) → t ≤ states_of b
    → start_of_row R b (first_of b s (suc t)) ≡ start_of_row R b (first_of b s t) + 2 ^ (sets_of b + 1) * (edges_from b s * steps_of (states_of b) t)
starts_next R b s t ht =
    let h : first_of b s (suc t) ≡ first_of b s t + 2 ^ (sets_of b + 1) = omega arith in
    ap (start_of_row R b) h ∙ starts_bits R b s t (2 ^ (sets_of b + 1)) ht (omega arith)

-- over the t below n: t of them passed, each with one target an edge
starts_saved : (R : Flag) (b : List ℕ) (s t : ℕ) → t ≤ states_of b
    → start_of_row R b (first_of b s t) ≡ start_of_row R b (first_of b s 0) + t * edges_from b s * 2 ^ (sets_of b + 1)
starts_saved R b s zero ht = omega arith
starts_saved R b s (suc t) ht =
    let h = rw (ne_eqb t (states_of b) (λ e. omega arith)) at (starts_next R b s t (omega arith)) in
    omega (arith, starts_saved R b s t (omega arith))

-- over the states: each has n such t, and t = n, where nothing is saved, with two targets an edge
starts_states : (R : Flag) (b : List ℕ) → WellFormed b → (s : ℕ) → s ≤ states_of b
    → start_of_row R b (first_of b s 0) ≡ row_start b s * (states_of b + 2) * 2 ^ (sets_of b + 1)
unfolding join_to
starts_states R b f zero hs = let h : first_of b 0 0 ≡ 0 = omega arith in rw (h, f.rows.first_row) (omega arith)
starts_states R b f (suc s) hs =
    let n = states_of b in
    let h : first_of b (suc s) 0 ≡ first_of b s (suc n) = omega arith in
    let d : row_start b (suc s) ≡ row_start b s + edges_from b s = omega (arith, f.rows.rows_rise s hs) in
    let l = rw (eq-eqb n n refl) at (starts_next R b s n (omega arith)) in
    rw (h, d) (omega (arith, starts_saved R b s n (omega arith), starts_states R b f s (omega arith)))

-- all rows together have E targets
pub all_targets : (R : Flag) (b : List ℕ) → WellFormed b → start_of_row R b (slots_of b) ≡ edge_count (states_of b) (edges_of b) (sets_of b)
unfolding edge_count slot_count
all_targets R b f =
    let h : slots_of b ≡ first_of b (states_of b) 0 = omega arith in
    ap (start_of_row R b) h ∙ starts_states R b f (states_of b) (omega arith) ∙ rw f.rows.last_row

-- no row starts past E
pub starts_to : (R : Flag) (b : List ℕ) → WellFormed b → (p : ℕ) → p ≤ slots_of b → start_of_row R b p ≤ edge_count (states_of b) (edges_of b) (sets_of b)
starts_to R b f p h = omega (arith, starts_rise R b p (slots_of b) h, all_targets R b f)

-- ---- the file

-- the file is as long as the quote says
pub length_file : (R : Flag) (b : List ℕ) → WellFormed b
    → length (file_of R b) ≡ translated_length (slots_of b) (edge_count (states_of b) (edges_of b) (sets_of b))
unfolding file_of
length_file R b f = omega (arith, length_with 2 0 (slots_of b) (row_of R b) (slot_mark R b), all_targets R b f)
