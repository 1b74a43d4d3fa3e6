-- Which tables are accepted, and which refusal every other gets. docs/RULES.md, "The table file" and the table's own lines of "Refusal
-- list". A line is named by its number. Definitions only. Assumes nothing.
use Rattle.std.specs.Prelude.{is_some, Bool, not, ◌&&◌, ◌||◌, List, [], ◌∷◌, ◌++◌, ℕ, suc, ◌+◌, ◌-◌, ◌^◌, eqb, leb, ltb, length, Option, None, Some, Result, Ok, Err}
use Rattle.table.specs.First.{first_in}
use Rattle.table.specs.Given.{given, given_at, first_given}
use Rattle.table.specs.Layout.{kind_of, states_of, edges_of, sets_of, rows_offset, targets_offset, marks_offset, rows_at, targets_at, marks_at, length_of, table_of, row_start, target, mark}
use Rattle.table.specs.declared.refusal.Refusal.{Refusal}
use Rattle.table.specs.declared.refusal.Refusal.TheVariants.{TooShort, WrongKind, WrongStates, WrongEdges, WrongSets, WrongLayout, WrongRowStart, WrongTarget, EmptyRow, WrongMark}
use Rattle.table.specs.declared.Table.{Table}

-- ---- the tests

-- x is outside low to high
unfoldable pub outside : ℕ → ℕ → ℕ → Bool
outside x low high = ltb x low || ltb high x

-- the three offsets and the length are the computed ones
unfoldable pub layout_fits : List ℕ → Bool
layout_fits b =
    eqb (rows_offset b) rows_at
    && eqb (targets_offset b) (targets_at (states_of b))
    && eqb (marks_offset b) (marks_at (states_of b) (edges_of b))
    && eqb (length b) (length_of (states_of b) (edges_of b))

-- row start i is wrong: first not 0, below the one before, above e, or last not e
unfoldable pub row_start_wrong : List ℕ → ℕ → Bool
row_start_wrong b i =
    (eqb i 0 && not (eqb (row_start b i) 0))
    || (not (eqb i 0) && ltb (row_start b i) (row_start b (i - 1)))
    || ltb (edges_of b) (row_start b i)
    || (eqb i (states_of b) && not (eqb (row_start b i) (edges_of b)))

-- some row starts at target i: there is no target before it in its row
unfoldable pub opens_row : List ℕ → ℕ → Bool
opens_row b i = is_some (first_in 0 (states_of b) (λ s. eqb (row_start b s) i))

-- target i is n or more, or not above the one before it in its row
unfoldable pub target_wrong : List ℕ → ℕ → Bool
target_wrong b i = leb (states_of b) (target b i) || (not (opens_row b i) && leb (target b i) (target b (i - 1)))

-- the row of state s is empty
unfoldable pub row_empty : List ℕ → ℕ → Bool
row_empty b s = eqb (row_start b s) (row_start b (suc s))

-- a mark bit of state s that must be clear is set: one past start, goal and the m sets
unfoldable pub mark_wrong : List ℕ → ℕ → Bool
mark_wrong b s = leb (2 ^ (2 + sets_of b)) (mark b s)

-- ---- the list

-- lines 1, 2, 3, 14 and 15: the header, and its counts n, e and m
unfoldable pub count_lines : List ℕ → List (Option Refusal)
count_lines b =
    given (ltb (length b) 28) TooShort
    ∷ given (not (eqb (kind_of b) 1)) WrongKind
    ∷ given (outside (states_of b) 1 64) WrongStates
    ∷ given (outside (edges_of b) 1 1024) WrongEdges
    ∷ given (outside (sets_of b) 0 4) WrongSets
    ∷ []

-- lines 4 and 5: layout and row starts
unfoldable pub row_lines : List ℕ → List (Option Refusal)
row_lines b =
    given (not (layout_fits b)) WrongLayout
    ∷ given_at (first_in 0 (states_of b + 1) (row_start_wrong b)) WrongRowStart
    ∷ []

-- lines 6 to 8: targets, empty rows and marks
unfoldable pub content_lines : List ℕ → List (Option Refusal)
content_lines b =
    given_at (first_in 0 (edges_of b) (target_wrong b)) WrongTarget
    ∷ given_at (first_in 0 (states_of b) (row_empty b)) EmptyRow
    ∷ given_at (first_in 0 (states_of b) (mark_wrong b)) WrongMark
    ∷ []

-- the table's own lines, in the list's order
unfoldable pub lines_of : List ℕ → List (Option Refusal)
lines_of b = (count_lines b ++ row_lines b) ++ content_lines b

-- what a job over the bytes refuses: a table that is not accepted gets its refusal, any other the first of the job's own lines that is given, if any
abbrev pub refusal_for : Result Table Refusal → List (Option Refusal) → Option Refusal
refusal_for (Err why) lines = Some why
refusal_for (Ok t) lines = first_given lines

-- the answer of opening: the refusal, or where there is none the table
abbrev pub answer_of : List ℕ → Option Refusal → Result Table Refusal
answer_of b None = Ok (table_of b)
answer_of b (Some r) = Err r

-- what the bytes are answered by these lines
unfoldable pub opened_by : List ℕ → List (Option Refusal) → Result Table Refusal
opened_by b lines = answer_of b (first_given lines)

-- what opening the bytes answers
unfoldable pub open_of : List ℕ → Result Table Refusal
open_of b = opened_by b (lines_of b)

-- the refusal of an answer that is one; TooShort of an accepted table, which no `let .. else` hands on
abbrev pub why_of : Result Table Refusal → Refusal
why_of (Err r) = r
why_of (Ok t) = TooShort
