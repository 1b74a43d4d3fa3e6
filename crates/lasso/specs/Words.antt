-- The answers of the five jobs as a number and words, for callers in other languages. The number is 0, or that of the refusal
-- (docs/RULES.md, "Refusal list"). The first word is the refusal's place, or 0; the others are the answer's values, all 0 on a refusal. Definitions
-- only. Assumes nothing.
use Rattle.std.specs.Prelude.{Option, Some, None, Result, Ok, Err, List, [], ◌∷◌, ℕ, ◌-◌, replicate}
use Rattle.recorder.specs.Slots.{bit_of}
use Rattle.recorder.specs.declared.Record.{Record}
use Rattle.table.specs.Refusals.{number_of, place_of}
use Rattle.table.specs.declared.Table.{Table}
use Rattle.table.specs.declared.refusal.Refusal.{Refusal}
use Rattle.quote.specs.declared.Quoted.{Quoted}
use Rattle.search.specs.declared.Lasso.{Lasso}

-- ---- any job's answer: a value, which has words, or a refusal

abbrev pub number_told : {T : Type 0} → Result T Refusal → ℕ
number_told (Ok x) = 0
number_told (Err why) = number_of why

-- the refusal's place, or 0
abbrev pub place_told : {T : Type 0} → Result T Refusal → ℕ
place_told (Ok x) = 0
place_told (Err why) = place_of why

-- k words, the first of which is the place
abbrev pub words_told : {T : Type 0} → ℕ → (T → List ℕ) → Result T Refusal → List ℕ
words_told k words (Ok x) = words x
words_told k words (Err why) = place_of why ∷ replicate (k - 1) 0

-- ---- open

abbrev pub open_number : Result Table Refusal → ℕ
open_number o = number_told o

abbrev pub open_place : Result Table Refusal → ℕ
open_place o = place_told o

-- place, states, edges, sets
abbrev pub open_row : Table → List ℕ
open_row t = 0 ∷ t.states ∷ t.edges ∷ t.sets ∷ []

abbrev pub open_words : Result Table Refusal → List ℕ
open_words o = words_told 4 open_row o

-- ---- quote

abbrev pub quote_number : Result Quoted Refusal → ℕ
quote_number q = number_told q

-- the board's number, or 8 for none
abbrev pub board_number : Option ℕ → ℕ
board_number (Some r) = r
board_number None = 8

-- place, S, E, the translated length, the board, the members of sets 0 to 3
abbrev pub quote_row : Quoted → List ℕ
quote_row q = let s = q.sheet in 0 ∷ s.slots ∷ s.edges ∷ s.bytes ∷ board_number s.board ∷ s.members

abbrev pub quote_words : Result Quoted Refusal → List ℕ
quote_words q = words_told 9 quote_row q

-- ---- search

abbrev pub search_number : Result (Option Lasso) Refusal → ℕ
search_number a = number_told a

-- place, 1 for a lasso or 0 for holds, k, l
abbrev pub found_row : Option Lasso → List ℕ
found_row (Some l) = 0 ∷ 1 ∷ l.k ∷ l.l ∷ []
found_row None = 0 ∷ 0 ∷ 0 ∷ 0 ∷ []

abbrev pub search_words : Result (Option Lasso) Refusal → List ℕ
search_words a = words_told 4 found_row a

-- ---- translate

abbrev pub translate_number : Result ℕ Refusal → ℕ
translate_number a = number_told a

-- place, how many bytes were written
abbrev pub translate_words : Result ℕ Refusal → List ℕ
translate_words a = words_told 2 (λ size. 0 ∷ size ∷ []) a

-- ---- step

abbrev pub step_number : Result Record Refusal → ℕ
step_number a = number_told a

-- place, and s, t, live, v of the next record
abbrev pub step_row : Record → List ℕ
step_row r = 0 ∷ r.s ∷ r.t ∷ bit_of r.live ∷ r.v ∷ []

abbrev pub step_words : Result Record Refusal → List ℕ
step_words a = words_told 5 step_row a
