-- What holds while the queue is scanned: between two turns and within a row, and how the scan of the queue is left. Over any flag. Assumes nothing.
use Rattle.std.specs.Prelude.{◌≡◌, Bool, List, ℕ, ◌≤◌, ◌<◌, Option, Some, None}
use Rattle.std.proofs.Common.{arith}
use Rattle.order.specs.Turn.{Between}
use Rattle.order.proofs.Turn.{search_ends}
use Rattle.recorder.specs.Flag.{Flag}
use Rattle.recorder.specs.Says.{Leaves}
use Rattle.recorder.specs.SlotGraph.{at}
use Rattle.recorder.specs.declared.Record.{Record}
use Rattle.table.specs.BlockOf.{block_of}
use Rattle.table.specs.LaidOut.{LaidOut}
use Rattle.table.specs.Recording.{slots_of, graph_of, to_of}
use Rattle.table.specs.WellFormed.{WellFormed}
use Rattle.table.specs.declared.Table.{Table}
use Rattle.search.specs.Workspace.{queue_of, Kept}
use Rattle.search.specs.Meet.{SameRest}
use Rattle.search.specs.Scan.{Stopped, ScanSays}
use Rattle.search.proofs.Follow.{Turned}

-- Between two turns, of S slots. w₀ is the workspace as it came.
pub record Waiting (F : Flag) (b : List ℕ) (S : ℕ) (w₀ w : List ℕ) (head tail : ℕ) : Type 0 where
  pub slots_are : S ≡ slots_of b
  pub kept : Kept (slots_of b) w tail
  -- the words past the first 2S are as they came
  pub same : SameRest (slots_of b) w₀ w
  -- the queue is no longer than there are slots, and these are few
  pub tail_to : tail ≤ slots_of b
  pub few : slots_of b < 4294967295
  -- the indices before head are done
  pub between : Between (graph_of F b) (queue_of (slots_of b) w) head tail

-- What was read of the slot x of an accepted table: its record, the marks of its state, and where the state's row ends.
pub record Reading (b : List ℕ) (t : Table) (S x : ℕ) (r : Record) (goal : Bool) (fair to : ℕ) : Type 0 where
  pub formed : WellFormed b
  pub laid : LaidOut b t
  pub slots_are : S ≡ slots_of b
  pub r_is : r ≡ at (block_of b) x
  pub leaves : Leaves (block_of b) r t.states goal fair
  pub to_is : to ≡ to_of b x

-- Within the row of the slot x that stands at head, at index i. w₀ is the workspace as the row began.
pub record Within (F : Flag) (b : List ℕ) (t : Table) (S : ℕ) (w₀ w : List ℕ) (head tail x : ℕ) (r : Record) (goal : Bool) (fair to i : ℕ) : Type 0 where
  pub read : Reading b t S x r goal fair to
  -- the targets before i are dealt with
  pub turned : Turned F b w head tail x i
  -- the words past the first 2S are as they were when the row began
  pub same : SameRest (slots_of b) w₀ w

-- the same under another name for S
pub within_as : {F : Flag} {b : List ℕ} {t : Table} {S S' : ℕ} {w₀ w : List ℕ} {head tail x : ℕ} {r : Record} {goal : Bool} {fair to i : ℕ} → S' ≡ S
    → Within F b t S w₀ w head tail x r goal fair to i → Within F b t S' w₀ w head tail x r goal fair to i
within_as e k = rw e k

-- ---- how the scan of the queue is left: at its end, or in the middle of a row at a bad slot

pub left_ended : {F : Flag} {b : List ℕ} {S S' : ℕ} {w₀ w : List ℕ} {head tail : ℕ} → S ≡ slots_of b → Waiting F b S' w₀ w head tail → tail ≤ head → ScanSays F b S w₀ None w
left_ended e v h = rw e (record { same = v.same; seen = search_ends v.between (omega (arith, v.between.log.head_le)) })

pub left_stopped : {F : Flag} {b : List ℕ} {S : ℕ} {w₀ w : List ℕ} {y head : ℕ} → S ≡ slots_of b → SameRest (slots_of b) w₀ w → Stopped F b (slots_of b) w head y
    → ScanSays F b S w₀ (Some head) w
left_stopped e m k = rw e (record { same = m; seen = (_, k) })

-- however it is left, the words past the first 2S are as they came
pub left_same : {F : Flag} {b : List ℕ} {S : ℕ} {w₀ w : List ℕ} {r : Option ℕ} → ScanSays F b S w₀ r w → SameRest S w₀ w
left_same k = k.same
