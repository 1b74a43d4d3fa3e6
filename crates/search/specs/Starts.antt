-- Queueing the starts. What the function that queues them asks and says. proofs/StartsLaws.antt has `Starting`: the starts below state s are queued,
-- and nothing else; it begins, it goes on, and at the last state the search can begin. Over any flag. Assumes nothing.
use Rattle.std.specs.Prelude.{◌≡◌, List, ℕ, ◌*◌, ◌≤◌, ◌<◌, length}
use Rattle.order.specs.Turn.{Between}
use Rattle.recorder.specs.Flag.{Flag}
use Rattle.table.specs.WellFormed.{WellFormed}
use Rattle.table.specs.LaidOut.{LaidOut}
use Rattle.table.specs.declared.Table.{Table}
use Rattle.table.specs.Recording.{slots_of, graph_of}
use Rattle.search.specs.Workspace.{origin_at, queue_of, Kept}
use Rattle.search.specs.Meet.{SameRest}

-- an accepted table, and a workspace for its slots with none met
pub record StartsAsk (b : List ℕ) (t : Table) (S : ℕ) (w : List ℕ) : Type 0 where
  pub formed : WellFormed b
  pub laid : LaidOut b t
  pub slots_are : S ≡ slots_of b
  pub room : 2 * S ≤ length w
  pub fresh : (x : ℕ) → x < S → origin_at w x ≡ 0

-- every start is queued, in the order of their labels, and nothing else; the words past the first 2S stay. r slots are
-- queued.
pub record StartsSay (F : Flag) (b : List ℕ) (S : ℕ) (w : List ℕ) (r : ℕ) (w' : List ℕ) : Type 0 where
  pub kept : Kept S w' r
  pub same : SameRest S w w'
  pub between : Between (graph_of F b) (queue_of S w') 0 r
