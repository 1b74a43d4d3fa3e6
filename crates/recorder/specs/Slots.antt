-- Slot numbers. docs/RULES.md, "The recorder": the slot number of a record is ((s(n+1) + t)·2 + live)·2^m + v, and there are S = n(n+1)·2^(m+1) of
-- them. proofs/Slots.antt has the laws: both round trips and the range, over any n and m. Assumes nothing.
use Rattle.std.specs.Prelude.{Bool, cond, eqb}
use Prim.Native.Nat.{ℕ, ◌+◌, ◌*◌, ◌/◌, ◌%◌, ◌^◌, ◌≤◌, ◌<◌}
use Rattle.recorder.specs.declared.Record.{Record}

-- a flag as a number
abbrev pub bit_of : Bool → ℕ
bit_of b = cond b 1 0

-- S, for n states and m sets
unfoldable pub slot_count : ℕ → ℕ → ℕ
slot_count n m = n * (n + 1) * 2 ^ (m + 1)

unfoldable pub slot_of : ℕ → ℕ → Record → ℕ
slot_of n m r = ((r.s * (n + 1) + r.t) * 2 + bit_of r.live) * 2 ^ m + r.v

-- the record whose slot number is x
unfoldable pub record_of_slot : ℕ → ℕ → ℕ → Record
record_of_slot n m x = record {
  s = x / 2 ^ m / 2 / (n + 1);
  t = x / 2 ^ m / 2 % (n + 1);
  live = eqb (x / 2 ^ m % 2) 1;
  v = x % 2 ^ m;
}

-- s is a state, t a state or n for nothing, v has bits of the m sets alone
pub record InRange (n m : ℕ) (r : Record) : Type 0 where
  pub s_in : r.s < n
  pub t_in : r.t ≤ n
  pub v_in : r.v < 2 ^ m
