-- A row of docs/RULES.md, "Tables by hand", and what it says that a row holds. Definitions only. Assumes nothing.
use Rattle.std.specs.Prelude.{Ok, Some, ◌≡◌, List, ℕ, suc, length}
use Rattle.order.specs.Certificate.{Item}
use Rattle.recorder.specs.Block.{Block}
use Rattle.recorder.specs.Lasso.{LeastLasso, NoLasso}
use Rattle.table.specs.Open.{open_of}
use Rattle.table.specs.BlockOf.{block_of}
use Rattle.quote.specs.Quote.{quote_of}
use Rattle.handtables.specs.Drawn.{Drawn, states, edges, set_count, bytes_of}

-- a lasso of length k with its loop place l and its states, or "holds"
pub data Answer : Type 0 where
  lasso : (k l : ℕ) → List ℕ → Answer
  holds : Answer

pub record Sizes : Type 0 where
  pub S : ℕ
  pub E : ℕ
  pub bytes : ℕ

-- A certificate is the queue of a search of the slot graph, from which the answer can be checked by computing (Twelve.antt). An entry
-- is a slot and its origin: 0 for a start, p + 1 where index p led to it. The search met a bad slot from the index `head`, or ended.
pub data Certificate : Type 0 where
  stopped : List Item → (head bad : ℕ) → Certificate
  ended : List Item → Certificate

pub record HandRow : Type 0 where
  pub table : Drawn
  pub answer : Answer
  pub sizes : Sizes
  pub members : List ℕ
  pub certificate : Certificate

-- the answer is right: THE least lasso, or there is none of any length
abbrev pub Answers : Block → Answer → Type 0
Answers B (lasso k l ss) = (length ss ≡ suc k) × LeastLasso B ss l
Answers B holds = NoLasso B

-- the row holds of the rules: the table is accepted, the quote is as said, with board A, and the answer is right
pub record RowHolds (r : HandRow) : Type 0 where
  pub accepted : open_of (bytes_of r.table) ≡ Ok (record { states = states r.table; edges = edges r.table; sets = set_count r.table })
  pub quoted : quote_of (bytes_of r.table) ≡ Ok (record {
    table = record { states = states r.table; edges = edges r.table; sets = set_count r.table };
    sheet = record { slots = r.sizes.S; edges = r.sizes.E; bytes = r.sizes.bytes; members = r.members; board = Some 0 };
  })
  pub answered : Answers (block_of (bytes_of r.table)) r.answer
