-- The members of a fairness set. docs/RULES.md, "Quote sheet": the number of members of each of the four sets, 0 for a set not below m.
-- proofs/MembersLaws.antt has the law that says the second half. Assumes nothing.
use Rattle.std.specs.Prelude.{Bool, cond, ℕ, zero, suc, ◌+◌, ◌/◌, ◌%◌, ◌^◌, eqb}
use Rattle.recorder.specs.Block.{Block}

-- how many of the numbers below k pass the test P
unfoldable pub count_below : ℕ → (ℕ → Bool) → ℕ
count_below zero P = 0
count_below (suc k) P = count_below k P + cond (P k) 1 0

-- the number of members of fairness set i
unfoldable pub members_of : Block → ℕ → ℕ
members_of B i = count_below B.n (λ s. eqb (B.fair s / 2 ^ i % 2) 1)
