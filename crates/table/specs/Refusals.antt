-- The refusal list's numbers and places, in the list's order. docs/RULES.md, "Refusal list". The place is 0 where not named. Definitions only.
-- Assumes nothing.
use Rattle.std.specs.Prelude.{ℕ}
use Rattle.table.specs.declared.refusal.Refusal.{Refusal}
use Rattle.table.specs.declared.refusal.Refusal.TheVariants.{TooShort, WrongKind, WrongStates, WrongEdges, WrongSets, WrongLayout, WrongRowStart, WrongTarget, EmptyRow, WrongMark, ShortWorkspace, ShortReport, ShortOutput, WrongRecord, NoEdge}

abbrev pub number_of : Refusal → ℕ
number_of TooShort = 1
number_of WrongKind = 2
number_of WrongStates = 3
number_of WrongEdges = 14
number_of WrongSets = 15
number_of WrongLayout = 4
number_of (WrongRowStart i) = 5
number_of (WrongTarget i) = 6
number_of (EmptyRow s) = 7
number_of (WrongMark s) = 8
number_of ShortWorkspace = 9
number_of ShortReport = 10
number_of ShortOutput = 11
number_of WrongRecord = 12
number_of NoEdge = 13

abbrev pub place_of : Refusal → ℕ
place_of TooShort = 0
place_of WrongKind = 0
place_of WrongStates = 0
place_of WrongEdges = 0
place_of WrongSets = 0
place_of WrongLayout = 0
place_of (WrongRowStart i) = i
place_of (WrongTarget i) = i
place_of (EmptyRow s) = s
place_of (WrongMark s) = s
place_of ShortWorkspace = 0
place_of ShortReport = 0
place_of ShortOutput = 0
place_of WrongRecord = 0
place_of NoEdge = 0
