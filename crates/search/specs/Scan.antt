-- What the scan of queue and row asks and says, over any flag. Assumes nothing.
use Rattle.std.specs.Prelude.{◌≡◌, List, ℕ, Option, Some, None}
use Rattle.order.specs.Graph.{Safe}
use Rattle.order.specs.Turn.{Between, Turning}
use Rattle.recorder.specs.Flag.{Flag}
use Rattle.table.specs.WellFormed.{WellFormed}
use Rattle.table.specs.LaidOut.{LaidOut}
use Rattle.table.specs.declared.Table.{Table}
use Rattle.table.specs.Recording.{slots_of, graph_of}
use Rattle.search.specs.Workspace.{slot_at, queue_of, Kept}
use Rattle.search.specs.Meet.{SameRest}

-- an accepted table, whose starts are queued
pub record ScanAsks (F : Flag) (b : List ℕ) (t : Table) (S : ℕ) (w : List ℕ) (tail : ℕ) : Type 0 where
  pub formed : WellFormed b
  pub laid : LaidOut b t
  pub slots_are : S ≡ slots_of b
  pub kept : Kept S w tail
  pub between : Between (graph_of F b) (queue_of S w) 0 tail

-- the scan stopped in the turn of head, which leads to the bad slot y, and to none with a lower label
pub record Stopped (F : Flag) (b : List ℕ) (S : ℕ) (w : List ℕ) (head y : ℕ) : Type 0 where
  pub tail : ℕ
  pub kept : Kept S w tail
  pub turning : Turning (graph_of F b) (queue_of S w) head tail ((graph_of F b).label y)
  pub edge : (graph_of F b).Edge (slot_at S w head) y
  pub bad : (graph_of F b).Bad y

-- what was seen: a bad slot that index head leads to, or that no run ends bad
abbrev pub SeenSays : Flag → List ℕ → ℕ → List ℕ → Option ℕ → Type 0
SeenSays F b S w (Some head) = (y : ℕ) × Stopped F b S w head y
SeenSays F b S w None = Safe (graph_of F b)

-- what was seen, and that the words past the first 2S stay
pub record ScanSays (F : Flag) (b : List ℕ) (S : ℕ) (w : List ℕ) (r : Option ℕ) (w' : List ℕ) : Type 0 where
  pub same : SameRest S w w'
  pub seen : SeenSays F b S w' r
