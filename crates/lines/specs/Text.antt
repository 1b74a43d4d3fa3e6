-- The text that the two programs print, as lists of ASCII codes. docs/RULES.md, "What the programs print": the lines of verdict, and the `refused`
-- line. Definitions only. Assumes nothing.
use Rattle.std.specs.Prelude.{Option, Some, None, Result, Ok, Err, cond, List, [], ◌∷◌, ◌++◌, ℕ, zero, suc, ◌+◌, ◌/◌, ◌%◌, ltb, take}
use Rattle.io.specs.Digits.{hex_digit_ascii}
use Rattle.table.specs.Refusals.{number_of, place_of}
use Rattle.table.specs.declared.refusal.Refusal.{Refusal}
use Rattle.quote.specs.declared.Sheet.{Sheet}
use Rattle.quote.specs.declared.Quoted.{Quoted}
use Rattle.search.specs.declared.Lasso.{Lasso}

-- ---- numbers and lines

-- the last k decimal digits of n, without zeros in front: those of n / 10, where that is not 0, then the last one
unfoldable pub digits_of : ℕ → ℕ → List ℕ
digits_of zero n = []
digits_of (suc k) n = cond (ltb n 10) [] (digits_of k (n / 10)) ++ (hex_digit_ascii (n % 10) ∷ [])

-- n in decimal; a number of 64 bits has at most 20 digits
abbrev pub decimal_of : ℕ → List ℕ
decimal_of n = digits_of 20 n

-- each number after a space
unfoldable pub numbers_of : List ℕ → List ℕ
numbers_of [] = []
numbers_of (n ∷ ns) = (32 ∷ decimal_of n) ++ numbers_of ns

-- a word and numbers, then the end of the line
abbrev pub line_of : List ℕ → List ℕ → List ℕ
line_of word ns = word ++ numbers_of ns ++ (10 ∷ [])

-- ---- words

-- `size`
abbrev pub size_word : List ℕ
size_word = 115 ∷ 105 ∷ 122 ∷ 101 ∷ []

-- `board `
abbrev pub board_word : List ℕ
board_word = 98 ∷ 111 ∷ 97 ∷ 114 ∷ 100 ∷ 32 ∷ []

-- `none`
abbrev pub none_word : List ℕ
none_word = 110 ∷ 111 ∷ 110 ∷ 101 ∷ []

-- `members`
abbrev pub members_word : List ℕ
members_word = 109 ∷ 101 ∷ 109 ∷ 98 ∷ 101 ∷ 114 ∷ 115 ∷ []

-- `lasso`
abbrev pub lasso_word : List ℕ
lasso_word = 108 ∷ 97 ∷ 115 ∷ 115 ∷ 111 ∷ []

-- `run`
abbrev pub run_word : List ℕ
run_word = 114 ∷ 117 ∷ 110 ∷ []

-- `holds`
abbrev pub holds_word : List ℕ
holds_word = 104 ∷ 111 ∷ 108 ∷ 100 ∷ 115 ∷ []

-- `refused`
abbrev pub refused_word : List ℕ
refused_word = 114 ∷ 101 ∷ 102 ∷ 117 ∷ 115 ∷ 101 ∷ 100 ∷ []

-- ---- the lines of verdict

-- line one: `size` S E bytes
abbrev pub size_line : Sheet → List ℕ
size_line s = line_of size_word (s.slots ∷ s.edges ∷ s.bytes ∷ [])

-- line two: `board` and its letter, or `none`
abbrev pub board_line : Option ℕ → List ℕ
board_line (Some r) = board_word ++ ((65 + r) ∷ []) ++ (10 ∷ [])
board_line None = board_word ++ none_word ++ (10 ∷ [])

-- line three: `members` of sets 0 to 3
abbrev pub members_line : List ℕ → List ℕ
members_line counts = line_of members_word counts

-- `refused` number place
abbrev pub refused_line : Refusal → List ℕ
refused_line why = line_of refused_word (number_of why ∷ place_of why ∷ [])

-- line four: `lasso` k l, or `holds`, or `refused` number place; line five, only after `lasso`: `run` and the states
abbrev pub answer_lines : Result (Option Lasso) Refusal → List ℕ → List ℕ
answer_lines (Ok (Some x)) report =
    line_of lasso_word (x.k ∷ x.l ∷ []) ++ line_of run_word (take (suc x.k) report)
answer_lines (Ok None) report = line_of holds_word []
answer_lines (Err why) report = refused_line why

-- lines one to three
abbrev pub sheet_lines : Sheet → List ℕ
sheet_lines s = size_line s ++ board_line s.board ++ members_line s.members

-- what verdict prints for a table with this quote, this answer of the search and this report: a refused table has only its `refused` line
abbrev pub verdict_of : Result Quoted Refusal → Result (Option Lasso) Refusal → List ℕ → List ℕ
verdict_of (Ok q) a report = sheet_lines q.sheet ++ answer_lines a report
verdict_of (Err why) a report = refused_line why
