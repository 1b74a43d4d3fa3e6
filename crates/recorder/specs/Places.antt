-- The record at place i of a run that records at the place l, written out. proofs/Places.antt has what its flag and its bits say. Assumes nothing.
use Rattle.std.specs.Prelude.{cond, List, ℕ, zero, suc, leb}
use Rattle.std.specs.Int.Bits.{bit_or}
use Rattle.recorder.specs.Block.{Block}
use Rattle.recorder.specs.Lasso.{state}
use Rattle.recorder.specs.Flag.{Flag, flag_at}
use Rattle.recorder.specs.declared.Record.{Record}

module _ (B : Block) (ss : List ℕ) (l : ℕ) where
  -- what is saved at place i: s_l from place l + 1 on
  abbrev pub saved_at : ℕ → ℕ
  saved_at zero = B.n
  saved_at (suc i) = cond (leb l i) (state ss l) B.n

  -- the bits at place i: of the sets that hold a state from place l up to, not including, place i
  abbrev pub bits_at : ℕ → ℕ
  bits_at zero = 0
  bits_at (suc i) = cond (leb l i) (bit_or (bits_at i) (B.fair (state ss i))) (bits_at i)

abbrev pub placed : Flag → Block → List ℕ → ℕ → ℕ → Record
placed F B ss l i = record { s = state ss i; t = saved_at B ss l i; live = flag_at F B ss l i; v = bits_at B ss l i }
