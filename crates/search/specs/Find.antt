-- The search of an accepted table, with buffers that are long enough: what its parts give together, over any flag. docs/RULES.md, "Lasso and choice".
-- A scan that stopped has the least lasso's numbers on its path; one that met no bad slot shows that there is no lasso. proofs/FindLaws.antt shows
-- it, and has the answers, which are those of the rules' flag. Assumes nothing.
use Rattle.std.specs.Prelude.{◌≡◌, List, ℕ, ◌*◌, ◌≤◌, length, Option}
use Rattle.table.specs.BlockOf.{block_of}
use Rattle.table.specs.WellFormed.{WellFormed}
use Rattle.table.specs.LaidOut.{LaidOut}
use Rattle.table.specs.declared.Table.{Table}
use Rattle.table.specs.Recording.{slots_of}
use Rattle.writing.specs.Cleared.{cleared}
use Rattle.search.specs.Searched.{AnswerSays}
use Rattle.search.specs.declared.Lasso.{Lasso}

-- an accepted table and buffers that are long enough
pub record FindAsks (b : List ℕ) (t : Table) (S : ℕ) (work report : List ℕ) : Type 0 where
  pub formed : WellFormed b
  pub laid : LaidOut b t
  pub slots_are : S ≡ slots_of b
  pub work_room : 2 * S ≤ length work
  pub report_room : S ≤ length report

-- what an accepted search says
abbrev pub FindSays : List ℕ → List ℕ → List ℕ → Option Lasso → List ℕ → List ℕ → Type 0
FindSays b work report x work' report' = AnswerSays (block_of b) report x report' × (work' ≡ cleared (2 * slots_of b) work)
