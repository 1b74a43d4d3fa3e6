-- It computes the formula, and each step of it is at most the slot number of a record in range.
use mir.Val.{bool_byte}
use Rattle.std.proofs.Common.{◌≡◌, ◌+◌, ◌*◌, ◌%◌, ◌^◌, ◌≤◌, ℕ, Bool, true, false, refl, arith}
use Rattle.recorder.specs.Slots.{bit_of, slot_of, InRange}
use Rattle.recorder.specs.declared.Record.{Record}
use Rattle.recorder.proofs.Fits.{one_shl, slot_small}
use Rattle.recorder.proofs.Record.slot.Goals as goal

-- the machine's number of a bool is the rule's
byte_is_bit : (b : Bool) → bool_byte b ≡ bit_of b
byte_is_bit true = refl
byte_is_bit false = refl

module _ (n m : ℕ) (r : Record) (pre : (n ≤ 64) × (m ≤ 8) × InRange n m r) where
  slot_is : ((r.s * (n + 1) + r.t) * 2 + bool_byte r.live) * (1 * 2 ^ m % 2 ^ 64) + r.v ≡ slot_of n m r
  unfolding slot_of
  slot_is = rw (one_shl m (omega arith), byte_is_bit r.live)

pub overflow_add-result-4 : goal.overflow_add-result-4
overflow_add-result-4 c = rw c.from.ensures (omega (arith, slot_is _ _ _ c.requires, slot_small _ _ _ c.requires))

pub returns : goal.returns
returns c = rw c.from.ensures (slot_is _ _ _ c.requires)
